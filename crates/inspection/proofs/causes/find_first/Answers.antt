use Rattle.std.proofs.Common.{None, Some, sym, arith, rules}
use Rattle.inspection.specs.First.{FirstAt}
use Rattle.inspection.proofs.causes.find_first.Goals as goal

pub returns-in-Some : goal.returns-in-Some
returns-in-Some g c = λ cause told.
    let first : FirstAt c.args.words cause c.in-Some.refusal = record {
      address = c.loop-address.address;
      inside = c.loop-address-test.true;
      before = λ a h. sym (told a None (omega arith) (c.loop-address.invariant a h));
      here = sym (told c.loop-address.address (Some c.in-Some.refusal) c.loop-address-test.true c.in-Some.ensures);
    } in
    search rules

pub returns : goal.returns
returns g c = λ cause told a h. sym (told a None h (c.loop-address.invariant a (omega arith)))
