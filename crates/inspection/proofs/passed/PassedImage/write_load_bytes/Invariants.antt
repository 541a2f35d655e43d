use Rattle.std.proofs.Common.{◌≡◌, ℕ, ◌+◌, ◌*◌, ◌/◌, ◌%◌, ◌<◌, ◌≤◌, get_or}
use Rattle.inspection.proofs.passed.PassedImage.write_load_bytes.Given as goal

abbrev pub invariant-loop-address : goal.invariant-loop-address
invariant-loop-address l =
    ((a : ℕ) → a < l.address → (get_or l.bytes (3 * a) 0 ≡ get_or l.self.words.now a 0 / 65536 % 256) × (get_or l.bytes (3 * a + 1) 0 ≡ get_or l.self.words.now a 0 / 256 % 256) × (get_or l.bytes (3 * a + 2) 0 ≡ get_or l.self.words.now a 0 % 256))
    × ((k : ℕ) → 3 * l.address ≤ k → get_or l.bytes k 0 ≡ get_or l.initial.bytes k 0)
