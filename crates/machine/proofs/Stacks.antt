-- The list of a stack's entries, as entries are pushed and popped. Assumes nothing.
use Rattle.std.proofs.Common.{◌≡◌, ℕ, zero, suc, ◌+◌, ◌-◌, ◌<◌, ◌≤◌, ◌≢◌, List, ◌∷◌, length, get_or, set, Some, refl, ap, add-one, arith, get_or-set_other, get_or-set_same}
use Rattle.machine.specs.declared.stack.Entry.{Entry}
use Rattle.machine.specs.Stacks.{blank, newest_first, top_of, rest_of}

pub length_newest : (entries : List Entry) (depth : ℕ) → length (newest_first entries depth) ≡ depth
length_newest entries zero = refl
length_newest entries (suc depth) = ap suc (length_newest entries depth)

-- an entry written above changes none below
newest_set : (entries : List Entry) (entry : Entry) (place depth : ℕ) → depth ≤ place → newest_first (set entries place entry) depth ≡ newest_first entries depth
newest_set entries entry place zero h = refl
newest_set entries entry place (suc depth) h =
    let ne : depth ≢ place = omega arith in
    let below = newest_set entries entry place depth (omega arith) in
    (λ i. get_or-set_other entries place depth entry blank ne i ∷ below i)

pub newest_push : (entries : List Entry) (entry : Entry) (depth : ℕ) → depth < length entries → newest_first (set entries depth entry) (depth + 1) ≡ entry ∷ newest_first entries depth
newest_push entries entry depth h = rw (add-one depth) (λ i. get_or-set_same entries depth entry blank h i ∷ newest_set entries entry depth depth (omega arith) i)

pub newest_pop : (entries : List Entry) (depth : ℕ) → newest_first entries (depth - 1) ≡ rest_of (newest_first entries depth)
newest_pop entries zero = refl
newest_pop entries (suc depth) = ap (newest_first entries) (omega arith)

pub newest_top : (entries : List Entry) (depth : ℕ) → 0 < depth → Some (get_or entries (depth - 1) blank) ≡ top_of (newest_first entries depth)
newest_top entries zero h = absurd (omega arith)
newest_top entries (suc depth) h = ap (λ n. Some (get_or entries n blank)) (omega arith)
