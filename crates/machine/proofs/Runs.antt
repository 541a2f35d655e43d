-- A run, one tick at a time: what its loop keeps. Assumes nothing.
use Rattle.std.proofs.Common.{◌≡◌, ℕ, suc, ◌+◌, ◌-◌, ◌*◌, ◌<◌, ◌≤◌, false, ltb, List, [], ◌∷◌, ◌++◌, length, get_or, take, drop, Some, None, Option, sym, refl, ap, ◌∙◌, subst, ⊎_elim, append_assoc, append-nil, add-zero, add_assoc, add-one, arith, length-set, take-append-drop, length-take-le, drop-cons, drop-drop, drop-set-lt}
use Rattle.std.proofs.lemmas.List.{drop_all, take_more_set}
use Rattle.std.proofs.lemmas.Bool.{cases_lt, le-ltb}
use Rattle.std.proofs.lemmas.Bool.Decides.{nat_tests}
use Rattle.refusals.specs.declared.Refusal.{Refusal}
use Rattle.memories.specs.Meaning.{Meaning}
use Rattle.machine.specs.declared.report.RunReport.{RunReport}
use Rattle.machine.specs.declared.step.Stepped.{Stepped}
use Rattle.machine.specs.Cores.{Core}
use Rattle.machine.specs.Counting.{Holds, noted, Counts}
use Rattle.machine.specs.Runs.{Ran, ran, ended, later, list_of, Reports}
use Rattle.machine.specs.Steps.{Outcome, stopped, went, step}
use Rattle.machine.proofs.Outcomes.{Every, Usual, step_usual}

pub later_later : (a b : ℕ) (xs : List ℕ) (c d : ℕ) (ys : List ℕ) (rest : Ran) → later a b xs (later c d ys rest) ≡ later (a + c) (b + d) (xs ++ ys) rest
later_later a b xs c d ys rest = λ i. record {
  core = rest.core;
  memory = rest.memory;
  ticks = sym (add_assoc a c rest.ticks) i;
  cycles = sym (add_assoc b d rest.cycles) i;
  exports = sym (append_assoc xs ys rest.exports) i;
  stop = rest.stop;
}

module _ (image : List ℕ) (room : ℕ) (core : Core) (memory : Meaning) where
  -- a step that went, and the run that follows it
  goes_on : (outcome : Outcome) (ticks : List ℕ) (core' : Core) (memory' : Meaning) (cycles : ℕ) (export : Option ℕ) → outcome ≡ went core' memory' cycles export → elim outcome [ stopped refusal ↦ ended core memory (Some refusal) | went c m n x ↦ later 1 n (list_of x) (ran image (room - length (list_of x)) ticks c m) ] ≡ later 1 cycles (list_of export) (ran image (room - length (list_of export)) ticks core' memory')
  goes_on outcome ticks core' memory' cycles export e = rw e

  pub ran_more : (tick : ℕ) (ticks : List ℕ) (core' : Core) (memory' : Meaning) (cycles : ℕ) (export : Option ℕ) → step image (ltb 0 room) tick core memory ≡ went core' memory' cycles export → ran image room (tick ∷ ticks) core memory ≡ later 1 cycles (list_of export) (ran image (room - length (list_of export)) ticks core' memory')
  unfolding ran
  ran_more tick ticks core' memory' cycles export e = goes_on (step image (ltb 0 room) tick core memory) ticks core' memory' cycles export e

  stops_here : (outcome : Outcome) (ticks : List ℕ) (refusal : Refusal) → outcome ≡ stopped refusal → elim outcome [ stopped r ↦ ended core memory (Some r) | went c m n x ↦ later 1 n (list_of x) (ran image (room - length (list_of x)) ticks c m) ] ≡ ended core memory (Some refusal)
  stops_here outcome ticks refusal e = rw e

  pub ran_stops : (tick : ℕ) (ticks : List ℕ) (refusal : Refusal) → step image (ltb 0 room) tick core memory ≡ stopped refusal → ran image room (tick ∷ ticks) core memory ≡ ended core memory (Some refusal)
  unfolding ran
  ran_stops tick ticks refusal e = stops_here (step image (ltb 0 room) tick core memory) ticks refusal e

  pub ran_none : ran image room [] core memory ≡ ended core memory None
  unfolding ran
  ran_none = refl

-- what the loop keeps: the whole run is what was spent so far and the run over the ticks that are left
pub record Spent (image ticks : List ℕ) (core₀ : Core) (memory₀ : Meaning) (exports₀ : List ℕ) (i : ℕ) (report : RunReport) (core : Core) (memory : Meaning) (exports : List ℕ) : Type 0 where
  pub total : ran image (length exports₀) ticks core₀ memory₀ ≡ later report.ticks report.cycles (take report.exports exports) (ran image (length exports₀ - report.exports) (drop i ticks) core memory)
  pub tail : drop report.exports exports ≡ drop report.exports exports₀
  pub few : report.exports ≤ length exports
  pub long : length exports ≡ length exports₀
  pub count : report.ticks ≡ i
  pub cycles : report.cycles ≤ 3 * i
  pub going : report.stop ≡ None

-- the list after an export, or none, is noted at its end so far
module _ (place : ℕ) (exports exports₀ : List ℕ) (tail : drop place exports ≡ drop place exports₀) where
  noted_take : (export : Option ℕ) → Holds export place exports → take (place + length (list_of export)) (noted export place exports) ≡ take place exports ++ list_of export
  noted_take None h = ap (λ n. take n exports) (add-zero place) ∙ sym (append-nil (take place exports))
  noted_take (Some export) h = take_more_set exports place export h

  noted_drop : (export : Option ℕ) → Holds export place exports → drop (place + length (list_of export)) (noted export place exports) ≡ drop (place + length (list_of export)) exports₀
  noted_drop None h = rw add-zero tail
  noted_drop (Some export) h = drop-set-lt (place + 1) exports place export (omega arith) ∙ sym (drop-drop 1 place exports) ∙ ap (drop 1) tail ∙ drop-drop 1 place exports₀

  noted_few : (export : Option ℕ) → place ≤ length exports → Holds export place exports → (place + length (list_of export) ≤ length (noted export place exports)) × (length (noted export place exports) ≡ length exports)
  noted_few None few h = (omega arith, refl)
  noted_few (Some export) few h = (simp length-set (omega arith), length-set exports place export)

room_holds : (export : Option ℕ) (place : ℕ) (exports : List ℕ) → (ltb place (length exports) ≡ false → export ≡ None) → Holds export place exports
room_holds None place exports quiet = tt
room_holds (Some export) place exports quiet =
    ⊎_elim (λ below. below) (λ past. let e = quiet (le-ltb place (length exports) past) in let z : ◌≡◌ {A = ℕ} 0 1 = cc in absurd (omega arith)) (cases_lt place (length exports))

room_left : (most place : ℕ) → ltb 0 (most - place) ≡ ltb place most
room_left most place = grind (arith, nat_tests)

module _ {image ticks : List ℕ} {core₀ : Core} {memory₀ : Meaning} {exports₀ : List ℕ} {i : ℕ} {report : RunReport} {core : Core} {memory : Meaning} {exports : List ℕ} (old : Spent image ticks core₀ memory₀ exports₀ i report core memory exports) where
  -- whether the list has room is the same told by either list
  same_room : ltb 0 (length exports₀ - report.exports) ≡ ltb report.exports (length exports)
  same_room = room_left (length exports₀) report.exports ∙ ap (ltb report.exports) (sym old.long)

  -- a step more
  module _ (stepped : Stepped) {report' : RunReport} {core' : Core} {memory' : Meaning} {exports' : List ℕ} (inside : i < length ticks) (holds : Holds stepped.export report.exports exports) (most : stepped.cycles ≤ 3) (goes : step image (ltb report.exports (length exports)) (get_or ticks i 0) core memory ≡ went core' memory' stepped.cycles stepped.export) (counts : Counts report stepped exports report' exports') where
    more_total : ran image (length exports₀) ticks core₀ memory₀ ≡ later report'.ticks report'.cycles (take report'.exports exports') (ran image (length exports₀ - report'.exports) (drop (i + 1) ticks) core' memory')
    more_total =
        let room : ℕ = length exports₀ - report.exports in
        let first : ran image room (drop i ticks) core memory ≡ later 1 stepped.cycles (list_of stepped.export) (ran image (room - length (list_of stepped.export)) (drop (suc i) ticks) core' memory') =
        ap (λ ts. ran image room ts core memory) (drop-cons ticks i 0 inside) ∙ ran_more image room core memory (get_or ticks i 0) (drop (suc i) ticks) core' memory' stepped.cycles stepped.export (rw same_room goes) in
        let written : take report.exports exports ++ list_of stepped.export ≡ take report'.exports exports' =
        sym (noted_take report.exports exports exports₀ old.tail stepped.export holds) ∙ (λ j. take (sym counts.exported j) (sym counts.listed j)) in
        let left : room - length (list_of stepped.export) ≡ length exports₀ - report'.exports = omega (arith, counts.exported) in
        old.total ∙ ap (later report.ticks report.cycles (take report.exports exports)) first ∙ later_later report.ticks report.cycles (take report.exports exports) 1 stepped.cycles (list_of stepped.export) _ ∙ (λ j. later (sym counts.ticks j) (sym counts.cycles j) (written j) (ran image (left j) (drop (sym (add-one i) j) ticks) core' memory'))

    pub spent_more : Spent image ticks core₀ memory₀ exports₀ (i + 1) report' core' memory' exports'
    spent_more =
        let size = noted_few report.exports exports exports₀ old.tail stepped.export old.few holds in
        record {
          total = more_total;
          tail = subst (λ l. drop report'.exports l ≡ drop report'.exports exports₀) (sym counts.listed) (subst (λ p. drop p (noted stepped.export report.exports exports) ≡ drop p exports₀) (sym counts.exported) (noted_drop report.exports exports exports₀ old.tail stepped.export holds));
          few = subst (λ l. report'.exports ≤ length l) (sym counts.listed) (omega (arith, counts.exported, size.0));
          long = ap length counts.listed ∙ size.1 ∙ old.long;
          count = omega (arith, counts.ticks, old.count);
          cycles = omega (arith, counts.cycles, old.cycles, most);
          going = counts.stop ∙ old.going;
        }

  -- the end, by a stop or for want of ticks
  reports_end : (stop : Option Refusal) → ran image (length exports₀ - report.exports) (drop i ticks) core memory ≡ ended core memory stop → Reports (ran image (length exports₀) ticks core₀ memory₀) (record { ticks = report.ticks; cycles = report.cycles; exports = report.exports; stop = stop; pc = core.pc }) exports₀ core memory exports
  reports_end stop here =
      let whole : ran image (length exports₀) ticks core₀ memory₀ ≡ later report.ticks report.cycles (take report.exports exports) (ended core memory stop) = old.total ∙ ap (later report.ticks report.cycles (take report.exports exports)) here in
      let size : length (take report.exports exports ++ []) ≡ report.exports = ap length (append-nil (take report.exports exports)) ∙ length-take-le report.exports exports old.few in
      subst (λ r. Reports r (record { ticks = report.ticks; cycles = report.cycles; exports = report.exports; stop = stop; pc = core.pc }) exports₀ core memory exports) (sym whole) (record {
        core = refl;
        memory = refl;
        listed = sym (take-append-drop report.exports exports) ∙ (λ j. sym (append-nil (take report.exports exports)) j ++ (old.tail ∙ ap (λ n. drop n exports₀) (sym size)) j);
        ticks = omega arith;
        cycles = omega arith;
        exported = sym size;
        stop = refl;
        pc = refl;
      })

  pub reports_stop : (refusal : Refusal) (core' : Core) (memory' : Meaning) → i < length ticks → (step image (ltb report.exports (length exports)) (get_or ticks i 0) core memory ≡ stopped refusal) × (core' ≡ core) × (memory' ≡ memory) → Reports (ran image (length exports₀) ticks core₀ memory₀) (record { ticks = report.ticks; cycles = report.cycles; exports = report.exports; stop = Some refusal; pc = core'.pc }) exports₀ core' memory' exports
  reports_stop refusal core' memory' inside stops =
      let here = ap (λ ts. ran image (length exports₀ - report.exports) ts core memory) (drop-cons ticks i 0 inside) ∙ ran_stops image (length exports₀ - report.exports) core memory (get_or ticks i 0) (drop (suc i) ticks) refusal (rw same_room stops.0) in
      let like : Core → Meaning → Type 0 = λ k m. Reports (ran image (length exports₀) ticks core₀ memory₀) (record { ticks = report.ticks; cycles = report.cycles; exports = report.exports; stop = Some refusal; pc = k.pc }) exports₀ k m exports in
      subst (λ k. like k memory') (sym stops.1) (subst (λ m. like core m) (sym stops.2) (reports_end (Some refusal) here))

  pub reports_all : length ticks ≤ i → Reports (ran image (length exports₀) ticks core₀ memory₀) (record { ticks = report.ticks; cycles = report.cycles; exports = report.exports; stop = report.stop; pc = core.pc }) exports₀ core memory exports
  reports_all past =
      subst (λ stop. Reports (ran image (length exports₀) ticks core₀ memory₀) (record { ticks = report.ticks; cycles = report.cycles; exports = report.exports; stop = stop; pc = core.pc }) exports₀ core memory exports) (sym old.going)
      (reports_end None (ap (λ ts. ran image (length exports₀ - report.exports) ts core memory) (drop_all i ticks past) ∙ ran_none image (length exports₀ - report.exports) core memory))

  -- a step that went had room for its export
  pub holds_export : {core' : Core} {memory' : Meaning} (stepped : Stepped) → step image (ltb report.exports (length exports)) (get_or ticks i 0) core memory ≡ went core' memory' stepped.cycles stepped.export → (stepped.cycles ≤ 3) × Holds stepped.export report.exports exports
  holds_export {core'} {memory'} stepped goes =
      let usual = subst (Every (Usual (ltb report.exports (length exports)))) goes (step_usual image (ltb report.exports (length exports)) (get_or ticks i 0) core memory) in
      (usual.most, room_holds stepped.export report.exports exports usual.quiet)
