-- What every reachable state keeps, and that each instruction keeps it without a fault. Assumes nothing.
--
--   Steady   the core: healthy, and at a place that the ledger marks
--   Kept     the memory: its pages, its bytes, and the cells outside the owned pages
--   Good     both
use Rattle.std.proofs.Common.{◌≡◌, ℕ, ◌+◌, ◌*◌, ◌<◌, ◌≤◌, Bool, true, false, leb, List, length, get_or, ℤ, pos, Some, None, Option, sym, refl, ap, subst, inl, inr, arith}
use Rattle.std.proofs.lemmas.Bool.{and_parts, cond-false, leb-true, ne_eqb, cases_Bool}
use Rattle.words.specs.declared.instruction.Instruction.{Instruction}
use Rattle.words.specs.Addresses.{inside_image}
use Rattle.memories.specs.Meaning.{Meaning}
use Rattle.machine.specs.declared.stack.Entry.{Entry}
use Rattle.machine.specs.Calls.{Poke, last_poked}
use Rattle.machine.specs.Cores.{Core, register, at}
use Rattle.facts.specs.declared.interval.Interval.{Interval}
use Rattle.facts.specs.declared.spans.PageSpans.{PageSpans}
use Rattle.facts.specs.Spans.{point, is, moved, move_both}
use Rattle.facts.specs.Successors.{Edge, past, Leads, Step, successors}
use Rattle.facts.specs.Written.{written}
use Rattle.ledger.specs.declared.owned.OwnedPages.{OwnedPages}
use Rattle.ledger.specs.declared.row.Row.{Row}
use Rattle.ledger.specs.Causes.{instruction_at}
use Rattle.ledger.specs.Ledgers.{Ledger}
use Rattle.ledger.specs.Pages.{reaches_memory, inside_owned}
use Rattle.ledger.specs.Rows.{spans_at, all_spans, HandlerMarked}
use Rattle.ledger.specs.Safety.{Foreign}
use Rattle.ledger.proofs.Decoded.{computed_writes, inside_address}
use Rattle.ledger.proofs.Effects.{Healthy, Effect}
use Rattle.ledger.proofs.Places.{In, Lies, Place, HandlerFrames, main_marked, handler_marked, handler_lies, handler_past, main_past, place_inside, place_marked}

pub record Steady (image : List ℕ) (rows : List Row) (core : Core) : Type 0 where
  pub healthy : Healthy image core.registers core.enabled
  pub place : Place image rows core.service (register core 14) (register core 15) core.pc core.stack

pub record Kept (owned : OwnedPages) (memory₀ : Meaning) (pokes : List Poke) (memory : Meaning) : Type 0 where
  pub pages : memory.pages ≡ memory₀.pages
  pub small : (page offset : ℕ) → memory.byte page offset < 256
  pub untouched : (page offset : ℕ) → Foreign owned page → memory.byte page offset ≡ last_poked pokes page offset (memory₀.byte page offset)

abbrev pub Good : List ℕ → OwnedPages → List Row → Meaning → List Poke → Core → Meaning → Type 0
Good image owned rows memory₀ pokes core memory = Steady image rows core × Kept owned memory₀ pokes memory

-- both page registers move as the spans do
lies_moved : (i : Instruction) (x : Option PageSpans) (r14 r15 r14' r15' : ℕ) → ((y : Interval) → In y r14 → In (moved 14 i y) r14') → ((y : Interval) → In y r15 → In (moved 15 i y) r15') → Lies x r14 r15 → Lies (move_both i x) r14' r15'
lies_moved i None r14 r15 r14' r15' low high h = h
lies_moved i (Some x) r14 r15 r14' r15' low high h = (low x.r14 h.0, high x.r15 h.1)

is_not : (number : ℕ) (to : Option ℕ) → (to ≡ Some number → ⊥) → is number to ≡ false
is_not number None h = refl
is_not number (Some rd) h = ne_eqb rd number (λ e. h (ap Some e))

-- a register that is not written keeps its value
unwritten_same : (i : Instruction) (number old new : ℕ) → (written i ≡ Some number → ⊥) → ((y : Interval) → In y old → In (moved number i y) new) → new ≡ old
unwritten_same i number old new h moves =
    let fixed : moved number i (point old) ≡ point old = cond-false _ _ _ (is_not number (written i) h) in
    let now : In (point old) new = subst (λ y. In y new) fixed (moves (point old) (omega arith, omega arith)) in
    omega arith

-- the page that the registers name is owned
owned_page : (owned : OwnedPages) (x : Option PageSpans) (r14 r15 : ℕ) → inside_owned owned x ≡ true → Lies x r14 r15 → (owned.first ≤ 256 * r15 + r14) × (256 * r15 + r14 ≤ owned.last)
owned_page owned None r14 r15 e h = absurd h
owned_page owned (Some x) r14 r15 e h =
    let both = and_parts (leb owned.first (256 * x.r15.low + x.r14.low)) (leb (256 * x.r15.high + x.r14.high) owned.last) e in
    let low : owned.first ≤ 256 * x.r15.low + x.r14.low = leb-true _ _ both.0 in
    let high : 256 * x.r15.high + x.r14.high ≤ owned.last = leb-true _ _ both.1 in
    (omega arith, omega arith)

module _ {image : List ℕ} {owned : OwnedPages} {rows : List Row} (ledger : Ledger image owned rows) where
  -- past a word, in either context
  place_past : (service : Bool) (i : Instruction) (a b : ℕ) (stack : List Entry) (r14 r15 r14' r15' : ℕ) → instruction_at image a ≡ Some i → Step image past a i b → ((y : Interval) → In y r14 → In (moved 14 i y) r14') → ((y : Interval) → In y r15 → In (moved 15 i y) r15') → Place image rows service r14 r15 a stack → Place image rows service r14' r15' b stack
  place_past true i a b stack r14 r15 r14' r15' found step low high h =
      let marked : HandlerMarked rows a = handler_marked image rows r14 r15 a stack h in
      let same14 : r14' ≡ r14 = unwritten_same i 14 r14 r14' (λ w. ledger.keeps a (record { marked = marked; instruction = i; found = found; writes = inl w })) low in
      let same15 : r15' ≡ r15 = unwritten_same i 15 r15 r15' (λ w. ledger.keeps a (record { marked = marked; instruction = i; found = found; writes = inr w })) high in
      subst (λ r. HandlerFrames image rows r r15' b stack) (sym same14) (subst (λ r. HandlerFrames image rows r14 r b stack) (sym same15) (handler_past ledger i a b stack r14 r15 step h))
  place_past false i a b stack r14 r15 r14' r15' found step low high h =
      main_past ledger i a b stack r14' r15' step (lies_moved i (spans_at rows a) r14 r15 r14' r15' low high h.0) h.1

  -- a memory word reaches an owned page, in either context
  pub place_owned : (service : Bool) (i : Instruction) (a : ℕ) (stack : List Entry) (r14 r15 : ℕ) → instruction_at image a ≡ Some i → reaches_memory i ≡ true → Place image rows service r14 r15 a stack → (owned.first ≤ 256 * r15 + r14) × (256 * r15 + r14 ≤ owned.last)
  place_owned true i a stack r14 r15 found reaches h = elim (cases_Bool (inside_owned owned (all_spans image rows))) [
    | inl e ↦ owned_page owned (all_spans image rows) r14 r15 e (handler_lies ledger r14 r15 a stack h)
    | inr e ↦ absurd (ledger.owns a (record { instruction = i; found = found; reaches = reaches; foreign = inr (handler_marked image rows r14 r15 a stack h, e) }))
  ]
  place_owned false i a stack r14 r15 found reaches h = elim (cases_Bool (inside_owned owned (spans_at rows a))) [
    | inl e ↦ owned_page owned (spans_at rows a) r14 r15 e h.0
    | inr e ↦ absurd (ledger.owns a (record { instruction = i; found = found; reaches = reaches; foreign = inl (main_marked image rows a stack h.1, e) }))
  ]

  module _ (core : Core) (steady : Steady image rows core) where
    pub inside : core.pc < length image
    inside = place_inside image rows core.service (register core 14) (register core 15) core.pc core.stack steady.place

    -- every way from this word leads to an address of the image
    pub lands : (i : Instruction) → instruction_at image core.pc ≡ Some i → (edge : Edge) (to : ℤ) → Leads (successors core.pc i) edge to → (b : ℕ) × (inside_image (length image) to ≡ Some b) × Step image edge core.pc i b
    lands i found edge to leads = go (inside_image (length image) to) refl
      where
        leads_to : (b : ℕ) → to ≡ pos b → Leads (successors core.pc i) edge (pos b)
        leads_to b e = subst (Leads (successors core.pc i) edge) e leads

        go : (o : Option ℕ) → inside_image (length image) to ≡ o → (b : ℕ) × (inside_image (length image) to ≡ Some b) × Step image edge core.pc i b
        go None e = absurd (ledger.inside core.pc (record { marked = place_marked image rows core.service (register core 14) (register core 15) core.pc core.stack steady.place; instruction = i; found = found; edge = edge; to = to; leads = leads; outside = e }))
        go (Some b) e =
            let k = inside_address (length image) to b e in
            (b, e, record { from = inside; writes = computed_writes (get_or image core.pc 0) i found; leads = leads_to b k.0; to = k.1 })

    pub steady_past : (i : Instruction) (core' : Core) (b : ℕ) → instruction_at image core.pc ≡ Some i → Effect image i core core' → Step image past core.pc i b → Steady image rows (at b core')
    steady_past i core' b found effect step = record {
      healthy = effect.healthy;
      place =
          subst (λ s. Place image rows s (register core' 14) (register core' 15) b core'.stack) (sym effect.service)
          (subst (Place image rows core.service (register core' 14) (register core' 15) b) (sym effect.stack)
          (place_past core.service i core.pc b core.stack (register core 14) (register core 15) (register core' 14) (register core' 15) found step (effect.moves 14 (omega arith)) (effect.moves 15 (omega arith)) steady.place));
    }
