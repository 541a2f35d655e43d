-- Where a register or a byte is written by the library's formats.
use Rattle.std.proofs.Common.{◌++◌, codes, ap, sym, ◌∙◌, arith}
use Rattle.words.specs.Text.{text, register_mnemonic, immediate_mnemonic, rotation_mnemonic, transfer_mnemonic}
use Rattle.words.proofs.Formats.{two_registers, register_and_byte, writes_same}
use Rattle.words.proofs.text.InstructionDisplay.fmt.Goals as goal

pub returns-in-Register-clause-writes : goal.returns-in-Register-clause-writes
returns-in-Register-clause-writes g c =
    let i = c.in-Register in
    writes_same _ (two_registers (register_mnemonic i.operation) i.rd i.rb (omega arith) (omega arith) ∙ ap text (sym i.is)) (rw (c.register_mnemonic-mnemonic.ensures, c.laid_out.ensures, c.laid_out-in-Register.ensures) at c.write.ensures.writes)

pub returns-in-Immediate-clause-writes : goal.returns-in-Immediate-clause-writes
returns-in-Immediate-clause-writes g c =
    let i = c.in-Immediate in
    writes_same _ (register_and_byte (immediate_mnemonic i.operation) i.rd i.constant (omega arith) (omega arith) ∙ ap text (sym i.is)) (rw (c.immediate_mnemonic-mnemonic.ensures, c.laid_out-in-Immediate.ensures, c.laid_out-in-Immediate-2.ensures, c.in_radix.ensures) at c.write-in-Immediate.ensures.writes)

pub returns-in-Rotate-clause-writes : goal.returns-in-Rotate-clause-writes
returns-in-Rotate-clause-writes g c =
    let i = c.in-Rotate in
    writes_same _ (two_registers (rotation_mnemonic i.rotation) i.rd i.rb (omega arith) (omega arith) ∙ ap text (sym i.is)) (rw (c.laid_out-in-Rotate.ensures, c.laid_out-in-Rotate-2.ensures) at c.write-in-Rotate.ensures.writes)

pub returns-in-Direct-clause-writes : goal.returns-in-Direct-clause-writes
returns-in-Direct-clause-writes g c =
    let i = c.in-Direct in
    writes_same _ (register_and_byte (transfer_mnemonic i.transfer) i.rd i.number (omega arith) (omega arith) ∙ ap text (sym i.is)) (rw (c.laid_out-in-Direct.ensures, c.laid_out-in-Direct-2.ensures, c.in_radix-in-Direct.ensures) at c.write-in-Direct.ensures.writes)

pub returns-in-Indirect-clause-writes : goal.returns-in-Indirect-clause-writes
returns-in-Indirect-clause-writes g c =
    let i = c.in-Indirect in
    writes_same _ (ap (λ l. transfer_mnemonic i.transfer ++ l) (two_registers (codes "i") i.rd i.rb (omega arith) (omega arith)) ∙ ap text (sym i.is)) (rw (c.laid_out-in-Indirect.ensures, c.laid_out-in-Indirect-2.ensures) at c.write-in-Indirect.ensures.writes)
