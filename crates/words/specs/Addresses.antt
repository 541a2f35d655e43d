-- Addresses of an image, and where an offset leads. Assumes nothing.
use Rattle.std.specs.Prelude.{ℕ, cond, ℤ, pos, negsuc, ◌+ℤ◌, Some, None, Option, nat_lt}

-- the address, if it lies in an image of so many words
abbrev pub inside_image : ℕ → ℤ → Option ℕ
inside_image words (pos address) = cond (nat_lt address words) (Some address) None
inside_image words (negsuc below) = None

-- where an offset leads, counted from the address of the word itself
abbrev pub landing : ℕ → ℕ → ℤ → Option ℕ
landing words address offset = inside_image words (pos address +ℤ offset)
