use Rattle.std.proofs.Common.{sym, ap, ◌∙◌, rules}
use Rattle.std.proofs.lemmas.Bool.{cond-true, cond-false}
use Rattle.std.proofs.lemmas.List.{length_push}
use Rattle.std.proofs.lemmas.Slice.Zip.{zip_turn}
use Rattle.facts.proofs.Summaries.{summary_turn}
use Rattle.facts.proofs.engine.summary.Goals as goal

pub loop-word-preserved-then-names : goal.loop-word-preserved-then-names
loop-word-preserved-then-names g c =
    let image = ap (λ z. z.a.rest.now) c.into_iter-word-iterator.ensures.into_iter_gives ∙ ap (λ r. r.rest.now) c.zip-word-items.ensures.first ∙ c.iter.ensures.rest in
    let table = ap (λ z. z.b.rest.now) c.into_iter-word-iterator.ensures.into_iter_gives ∙ c.zip-word-items.ensures.second.0 in
    let turn = zip_turn c.args.image.now c.args.table.now c.loop-word.yielded c.into_iter-word-iterator.result c.loop-word.word-iterator c.next.new.self c.next.result image table c.loop-word.yielded_by _ c.in-Some.is c.next.ensures.steps in
    let value = c.join-joined.ensures.value in
    let named = sym (cond-true _ _ _ (sym c.if-names.ensures)) ∙ summary_turn g.met.F.Fact.laws c.args.image.now c.args.table.now _ _ c.in-Some.word.now c.in-Some.fact.now c.loop-word.joined (length_push c.loop-word.yielded (c.in-Some.word, c.in-Some.fact)) turn.0 turn.1 (turn.2 0) (turn.3 g.F.Fact.kind.bottom) c.loop-word.invariant in
    search rules

pub loop-word-preserved : goal.loop-word-preserved
loop-word-preserved g c =
    let image = ap (λ z. z.a.rest.now) c.into_iter-word-iterator.ensures.into_iter_gives ∙ ap (λ r. r.rest.now) c.zip-word-items.ensures.first ∙ c.iter.ensures.rest in
    let table = ap (λ z. z.b.rest.now) c.into_iter-word-iterator.ensures.into_iter_gives ∙ c.zip-word-items.ensures.second.0 in
    let turn = zip_turn c.args.image.now c.args.table.now c.loop-word.yielded c.into_iter-word-iterator.result c.loop-word.word-iterator c.next.new.self c.next.result image table c.loop-word.yielded_by _ c.in-Some.is c.next.ensures.steps in
    sym (cond-false _ _ _ (sym c.if-names.ensures))
    ∙ summary_turn g.met.F.Fact.laws c.args.image.now c.args.table.now _ _ c.in-Some.word.now c.in-Some.fact.now c.loop-word.joined (length_push c.loop-word.yielded (c.in-Some.word, c.in-Some.fact)) turn.0 turn.1 (turn.2 0) (turn.3 g.F.Fact.kind.bottom) c.loop-word.invariant
