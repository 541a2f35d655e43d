use Rattle.std.proofs.Common.{◌<◌, length, arith, rules}
use Rattle.std.proofs.lemmas.List.{length-take}
use Rattle.calls.proofs.Lists.{performs_next}
use Rattle.calls.proofs.performing.perform_all.Goals as goal

pub loop-place-preserved : goal.loop-place-preserved
loop-place-preserved g c =
    let listed = c.loop-place-test.true in
    let inside : c.loop-place.place < length c.args.answers.now = omega (arith, listed, length-take c.min-count.result c.args.calls.now) in
    let kept = c.loop-place.auto.exports in
    let old = c.loop-place.invariant.0 in
    let one = c.perform.ensures.performs in
    (search (rules, performs_next), search rules)
