-- The worked example has the ledger that it claims. Assumes nothing.
use Rattle.std.proofs.Common.{◌≡◌, ℕ, zero, suc, ◌+◌, ◌<◌, ◌≤◌, true, cond, ℤ, pos, Some, None, sym, refl, ap, ◌∙◌, subst, ⊎_elim, arith}
use Rattle.std.proofs.lemmas.Bool.{false≢true}
use Rattle.words.specs.declared.codes.FlagChange.TheVariants.{Seti}
use Rattle.words.specs.declared.instruction.Instruction.{Instruction}
use Rattle.words.specs.declared.instruction.Instruction.TheVariants.{Flag, ReturnFromInterrupt, Branch}
use Rattle.words.specs.Decoding.{instruction_of, flag_at, offset_at}
use Rattle.words.proofs.Codec.{written_computed}
use Rattle.words.specs.Addresses.{inside_image}
use Rattle.facts.specs.Kinds.{Covers}
use Rattle.facts.specs.Marks.{marks}
use Rattle.facts.specs.Spans.{spans}
use Rattle.facts.specs.Successors.{Edge, past, enter, resume, Leads, Step, successors}
use Rattle.facts.specs.Tables.{carry, summary}
use Rattle.facts.specs.Written.{written}
use Rattle.ledger.specs.Causes.{instruction_at, Undefined, MixedFrames, MisplacedReturn, WritesPageRegister, ForeignPage}
use Rattle.ledger.specs.Examples.{waiting, waiting_rows, one_page, LedgerExamples}
use Rattle.ledger.specs.Interrupts.{interruptible, outermost, handler_start}
use Rattle.ledger.specs.Ledgers.{Ledger}
use Rattle.ledger.specs.Needs.{depth, pushes}
use Rattle.ledger.specs.Pages.{reaches_memory}
use Rattle.ledger.specs.Rows.{mains, handlers, main_at, handler_at, spans_at, all_spans, need_at, Marked}

-- what the three words are, and that there are no more
first : instruction_at waiting 0 ≡ Some ReturnFromInterrupt
unfolding instruction_of
first = refl

second : instruction_at waiting 1 ≡ Some (Flag Seti)
unfolding instruction_of flag_at
second = refl

third : instruction_at waiting 2 ≡ Some (Branch (pos 0))
unfolding instruction_of offset_at
third = refl

able : interruptible waiting ≡ true
unfolding instruction_of flag_at
able = refl

deep : depth waiting waiting_rows ≡ 1
unfolding instruction_of flag_at
deep = refl

none_some : {A : Type 0} (x : A) → None ≡ Some x → ⊥
none_some x e = let z : ◌≡◌ {A = ℕ} 0 1 = cc in omega arith

same_some : {A : Type 0} (x y : A) → Some x ≡ Some y → x ≡ y
same_some x y e = cc

-- the ways that lead on: from the second word and from the third, each to the third
module _ (P : ℕ → Edge → Instruction → ℤ → Type 0) (from_second : P 1 past (Flag Seti) (pos 2)) (from_third : P 2 past (Branch (pos 0)) (pos 2)) where
  from_flag : (edge : Edge) (to : ℤ) → Leads (successors 1 (Flag Seti)) edge to → P 1 edge (Flag Seti) to
  from_flag past to l = ⊎_elim (λ e. subst (P 1 past (Flag Seti)) (same_some _ _ e) from_second) (λ e. absurd (none_some to e)) l
  from_flag enter to l = absurd (none_some to l)
  from_flag resume to l = absurd (none_some to l)

  from_branch : (edge : Edge) (to : ℤ) → Leads (successors 2 (Branch (pos 0))) edge to → P 2 edge (Branch (pos 0)) to
  from_branch past to l = ⊎_elim (λ e. absurd (none_some to e)) (λ e. subst (P 2 past (Branch (pos 0))) (same_some _ _ e) from_third) l
  from_branch enter to l = absurd (none_some to l)
  from_branch resume to l = absurd (none_some to l)

  from_return : (edge : Edge) (to : ℤ) → Leads (successors 0 ReturnFromInterrupt) edge to → ⊥
  from_return past to l = ⊎_elim (none_some to) (none_some to) l
  from_return enter to l = none_some to l
  from_return resume to l = none_some to l

  every_lead : (a : ℕ) → a < 3 → (edge : Edge) (i : Instruction) (to : ℤ) → instruction_at waiting a ≡ Some i → Leads (successors a i) edge to → P a edge i to
  every_lead zero small edge i to found l =
      absurd (from_return edge to (subst (λ j. Leads (successors 0 j) edge to) (same_some i ReturnFromInterrupt (sym found ∙ first)) l))
  every_lead (suc zero) small edge i to found l =
      let is = same_some i (Flag Seti) (sym found ∙ second) in
      subst (λ j. P 1 edge j to) (sym is) (from_flag edge to (subst (λ j. Leads (successors 1 j) edge to) is l))
  every_lead (suc (suc zero)) small edge i to found l =
      let is = same_some i (Branch (pos 0)) (sym found ∙ third) in
      subst (λ j. P 2 edge j to) (sym is) (from_branch edge to (subst (λ j. Leads (successors 2 j) edge to) is l))
  every_lead (suc (suc (suc a))) small edge i to found l = absurd (omega arith)

every_step_lem : (P : ℕ → Edge → Instruction → ℕ → Type 0) → P 1 past (Flag Seti) 2 → P 2 past (Branch (pos 0)) 2 → (a : ℕ) (edge : Edge) (i : Instruction) (b : ℕ) → Step waiting edge a i b → P a edge i b
every_step_lem P from_second from_third a edge i b step =
    every_lead (λ a edge i to. (b : ℕ) → to ≡ pos b → P a edge i b)
    (λ b e. subst (P 1 past (Flag Seti)) (same_pos 2 b e) from_second)
    (λ b e. subst (P 2 past (Branch (pos 0))) (same_pos 2 b e) from_third)
    a step.from edge i (pos b) (written_computed i _ step.writes) step.leads b refl
  where
    same_pos : (m n : ℕ) → pos m ≡ pos n → m ≡ n
    same_pos m n e = cc

marked_below : (a : ℕ) → Marked waiting_rows a → a < 3
marked_below zero h = omega arith
marked_below (suc zero) h = omega arith
marked_below (suc (suc zero)) h = omega arith
marked_below (suc (suc (suc a))) h = absurd (⊎_elim false≢true false≢true h)

defined : (a : ℕ) → Undefined waiting waiting_rows a → ⊥
defined zero c = none_some _ (sym c.none ∙ first)
defined (suc zero) c = none_some _ (sym c.none ∙ second)
defined (suc (suc zero)) c = none_some _ (sym c.none ∙ third)
defined (suc (suc (suc a))) c = let k = marked_below (suc (suc (suc a))) c.marked in omega arith

apart : (a : ℕ) → MixedFrames waiting_rows a → ⊥
apart zero h = ⊎_elim (λ m. false≢true m.1) (λ m. false≢true m.1) h
apart (suc zero) h = ⊎_elim (λ m. false≢true m.1) (λ m. false≢true m.1) h
apart (suc (suc zero)) h = ⊎_elim (λ m. false≢true m.1) (λ m. false≢true m.1) h
apart (suc (suc (suc a))) h = ⊎_elim (λ m. false≢true m.1) (λ m. false≢true m.1) h

returns : (a : ℕ) → MisplacedReturn waiting waiting_rows a → ⊥
returns zero h = ⊎_elim (λ k. let z : ◌≡◌ {A = ℕ} 0 1 = cc (first, k.0) in omega arith) (λ k. ⊎_elim false≢true false≢true k.1) h
returns (suc zero) h = ⊎_elim (λ k. let z : ◌≡◌ {A = ℕ} 0 1 = cc (second, k.0) in omega arith) (λ k. let z : ◌≡◌ {A = ℕ} 0 1 = cc (second, k.0) in omega arith) h
returns (suc (suc zero)) h = ⊎_elim (λ k. let z : ◌≡◌ {A = ℕ} 0 1 = cc (third, k.0) in omega arith) (λ k. let z : ◌≡◌ {A = ℕ} 0 1 = cc (third, k.0) in omega arith) h
returns (suc (suc (suc a))) h = ⊎_elim (λ k. ⊎_elim false≢true false≢true k.1) (λ k. ⊎_elim false≢true false≢true k.1) h

keeps : (a : ℕ) → WritesPageRegister waiting waiting_rows a → ⊥
keeps zero c =
    let is = same_some c.instruction ReturnFromInterrupt (sym c.found ∙ first) in
    ⊎_elim (λ w. none_some 14 (ap written (sym is) ∙ w)) (λ w. none_some 15 (ap written (sym is) ∙ w)) c.writes
keeps (suc zero) c = false≢true c.marked
keeps (suc (suc zero)) c = false≢true c.marked
keeps (suc (suc (suc a))) c = false≢true c.marked

owns : (a : ℕ) → ForeignPage waiting one_page waiting_rows a → ⊥
owns zero c = false≢true (ap reaches_memory (same_some ReturnFromInterrupt c.instruction (sym first ∙ c.found)) ∙ c.reaches)
owns (suc zero) c = false≢true (ap reaches_memory (same_some (Flag Seti) c.instruction (sym second ∙ c.found)) ∙ c.reaches)
owns (suc (suc zero)) c = false≢true (ap reaches_memory (same_some (Branch (pos 0)) c.instruction (sym third ∙ c.found)) ∙ c.reaches)
owns (suc (suc (suc a))) c = ⊎_elim (λ k. false≢true k.0) (λ k. false≢true k.0) c.foreign

handler_begins : Covers marks (handler_at waiting_rows 0) (handler_start waiting)
handler_begins = subst (λ b. Covers marks (handler_at waiting_rows 0) (cond b outermost marks.bottom)) (sym able) refl

waiting_ledger : Ledger waiting one_page waiting_rows
waiting_ledger = record {
  long = refl;
  main = record { begins = λ h. refl; flows = every_step_lem (λ a edge i b. Covers marks (main_at waiting_rows b) (carry marks edge i (summary marks waiting (mains waiting_rows)) (main_at waiting_rows a))) refl refl };
  handler = record { begins = λ h. handler_begins; flows = every_step_lem (λ a edge i b. Covers marks (handler_at waiting_rows b) (carry marks edge i (summary marks waiting (handlers waiting_rows)) (handler_at waiting_rows a))) refl refl };
  spans = record { begins = λ h. refl; flows = every_step_lem (λ a edge i b. Covers spans (spans_at waiting_rows b) (carry spans edge i (all_spans waiting waiting_rows) (spans_at waiting_rows a))) refl refl };
  inside = λ a c. every_lead (λ a edge i to. inside_image 3 to ≡ None → ⊥) (λ e. none_some 2 (sym e)) (λ e. none_some 2 (sym e)) a (marked_below a c.marked) c.edge c.instruction c.to c.found c.leads c.outside;
  defined = defined;
  apart = apart;
  returns = returns;
  keeps = keeps;
  owns = owns;
  needs = λ a m. every_step_lem (λ a edge i b. pushes edge + need_at waiting_rows b ≤ need_at waiting_rows a) (omega arith) (omega arith) a;
  shallow = omega (arith, deep);
}

pub ledger_examples : LedgerExamples
ledger_examples = record { ledger = waiting_ledger; deep = deep }
