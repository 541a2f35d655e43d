use Rattle.std.proofs.Common.{◌≡◌, ◌++◌, string_bytes}
use Rattle.std.specs.List.{flat_map}
use Rattle.tables.proofs.Lines.{numbered_line}
use Rattle.tables.proofs.table.write_lines.Given as goal

abbrev pub invariant-loop-address : goal.invariant-loop-address
invariant-loop-address l =
    string_bytes l.text ≡ string_bytes l.initial.text ++ flat_map (λ p. numbered_line (p.0, (p.1.0.now, p.1.1.now))) l.yielded
