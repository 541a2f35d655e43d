use Rattle.std.proofs.Common.{◌++◌, string_bytes, sym, ap, ◌∙◌}
use Rattle.std.specs.List.{flat_map}
use Rattle.std.proofs.lemmas.Iterator.{YieldsList-from_slice, YieldsList-from_zip}
use Rattle.std.proofs.lemmas.Iterator.Consumers.{YieldsList-at, YieldsList-from_enumerate, YieldsList-end}
use Rattle.std.proofs.lemmas.List.{flat_map_more}
use Rattle.std.proofs.lemmas.List.Folds.{flat_map-map}
use Rattle.tables.proofs.Lines.{numbered_line, lines_numbered}
use Rattle.tables.proofs.table.write_lines.Goals as goal

pub loop-address-preserved : goal.loop-address-preserved
loop-address-preserved c =
    let l = c.in-Some in
    rw (c.instruction_of.ensures.0) at c.in_ok-writeln.ensures.bytes
    ∙ ap (λ t. t ++ numbered_line (l.address, (l.word.now, l.row.now))) c.loop-address.invariant
    ∙ flat_map_more (λ p. numbered_line (p.0, (p.1.0.now, p.1.1.now))) (string_bytes c.args.text.now) c.loop-address.yielded (l.address, (l.word, l.row))

pub returns : goal.returns
returns c =
    let items = YieldsList-from_enumerate (YieldsList-from_zip (YieldsList-from_slice c.args.words.now cc) (YieldsList-from_slice c.args.rows.now cc)) cc in
    let seen = YieldsList-end (YieldsList-at c.into_iter-address-iterator.ensures.into_iter_gives items) c.loop-address.yielded c.loop-address.address-iterator c.loop-address.yielded_by c.next.result c.next.new.self c.in-None.is c.next.ensures.steps in
    c.loop-address.invariant
    ∙ ap (λ l. string_bytes c.args.text.now ++ l) (sym (flat_map-map numbered_line _ c.loop-address.yielded) ∙ ap (flat_map numbered_line) seen.0 ∙ lines_numbered 0 c.args.words.now c.args.rows.now)
