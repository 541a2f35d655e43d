-- A call stack as the list of its entries, the newest first. Assumes nothing.
use Rattle.std.specs.Prelude.{ℕ, zero, suc, false, List, [], ◌∷◌, Some, None, Option, slice_index_or}
use Rattle.machine.specs.declared.stack.Entry.{Entry}
use Rattle.machine.specs.declared.stack.Stack.{Stack}

abbrev pub blank : Entry
blank = record { address = 0; carry = false; zero = false }

-- the first so many entries, the last of them first
abbrev pub newest_first : List Entry → ℕ → List Entry
newest_first entries zero = []
newest_first entries (suc depth) = slice_index_or entries depth blank ∷ newest_first entries depth

abbrev pub stack_of : Stack → List Entry
stack_of stack = newest_first stack.entries stack.depth

abbrev pub top_of : List Entry → Option Entry
top_of [] = None
top_of (entry ∷ rest) = Some entry

abbrev pub rest_of : List Entry → List Entry
rest_of [] = []
rest_of (entry ∷ rest) = rest
