-- What an instruction does to the registers, against the spans that it moves. Assumes nothing.
--
--   Healthy   32 registers, each a byte, and interrupts enabled only where an image can be interrupted
--   Effect    a core after an instruction: healthy, its frames kept, each register in the interval that the instruction moves
use Rattle.std.proofs.Common.{◌≡◌, ℕ, zero, suc, ◌<◌, Bool, true, false, cond, eqb, ◌≢◌, List, [], ◌∷◌, length, get_or, set, Some, None, sym, refl, ap, ◌∙◌, subst, arith, length-set, get_or-set_other, get_or-set_same}
use Rattle.std.proofs.lemmas.Nat.{and_le_l, and_le_r, or_lt, xor_lt}
use Rattle.std.proofs.lemmas.Bool.{cond-true, cond-false, eqb-true, eqb-false, false≢true}
use Rattle.words.specs.declared.codes.FlagChange.{FlagChange}
use Rattle.words.specs.declared.codes.FlagChange.TheVariants.{Clrc, Setc, Clrz, Setz, Clri, Seti}
use Rattle.words.specs.declared.codes.Operation.{Operation}
use Rattle.words.specs.declared.codes.Operation.TheVariants.{Sub, Subc, Add, Addc, Mov, And, Or, Xor, Cmp, Test}
use Rattle.words.specs.declared.codes.Rotation.{Rotation}
use Rattle.words.specs.declared.codes.Rotation.TheVariants.{Ror, Rol, Rorc, Rolc}
use Rattle.words.specs.declared.instruction.Instruction.{Instruction}
use Rattle.words.specs.declared.instruction.Instruction.TheVariants.{Register, Immediate, Rotate, Flag}
use Rattle.machine.specs.Arithmetic.{Computed, bit, keeps, rotated, settled, operated, flagged, computed as operate}
use Rattle.machine.specs.Cores.{Core, register, with_flags}
use Rattle.facts.specs.declared.interval.Interval.{Interval}
use Rattle.facts.specs.Spans.{immediate, computed, is, moved}
use Rattle.facts.specs.Written.{result, written}
use Rattle.ledger.specs.Interrupts.{enables, interruptible}
use Rattle.ledger.proofs.Places.{In}

pub record Healthy (image registers : List ℕ) (enabled : Bool) : Type 0 where
  pub long : length registers ≡ 32
  pub bytes : (number : ℕ) → get_or registers number 0 < 256
  pub able : enabled ≡ true → interruptible image ≡ true

pub record Effect (image : List ℕ) (i : Instruction) (core core' : Core) : Type 0 where
  pub healthy : Healthy image core'.registers core'.enabled
  pub stack : core'.stack ≡ core.stack
  pub service : core'.service ≡ core.service
  pub moves : (number : ℕ) → number < 32 → (x : Interval) → In x (register core number) → In (moved number i x) (register core' number)

set_below : (values : List ℕ) (place value number : ℕ) → ((k : ℕ) → get_or values k 0 < 256) → value < 256 → get_or (set values place value) number 0 < 256
set_below [] place value number h b = h number
set_below (x ∷ values) zero value zero h b = b
set_below (x ∷ values) zero value (suc number) h b = h (suc number)
set_below (x ∷ values) (suc place) value zero h b = h 0
set_below (x ∷ values) (suc place) value (suc number) h b = set_below values place value number (λ k. h (suc k)) b

operate_below : (operation : Operation) (carry : Bool) (a b : ℕ) → a < 256 → b < 256 → (operate operation carry a b).value < 256
operate_below Sub carry a b h k = omega arith
operate_below Subc carry a b h k = omega arith
operate_below Add carry a b h k = omega arith
operate_below Addc carry a b h k = omega arith
operate_below Mov carry a b h k = k
operate_below And carry a b h k = omega (arith, and_le_l a b)
operate_below Or carry a b h k = or_lt 8 a b h k
operate_below Xor carry a b h k = xor_lt 8 a b h k
operate_below Cmp carry a b h k = omega arith
operate_below Test carry a b h k = omega (arith, and_le_l a b)

bit_below : (flag : Bool) → bit flag < 2
bit_below true = omega arith
bit_below false = omega arith

rotated_below : (rotation : Rotation) (carry : Bool) (b : ℕ) → b < 256 → (rotated rotation carry b).value < 256
rotated_below Ror carry b h = omega arith
rotated_below Rol carry b h = omega arith
rotated_below Rorc carry b h = omega (arith, bit_below carry)
rotated_below Rolc carry b h = omega (arith, bit_below carry)

-- the result of an operation with a constant lies where the spans say
immediate_in : (operation : Operation) (carry : Bool) (a c : ℕ) (x : Interval) → a < 256 → c < 256 → In x a → In (immediate operation c x) (operate operation carry a c).value
immediate_in Sub carry a c x h k l = (omega arith, omega arith)
immediate_in Subc carry a c x h k l = (omega arith, omega arith)
immediate_in Add carry a c x h k l = (omega arith, omega arith)
immediate_in Addc carry a c x h k l = (omega arith, omega arith)
immediate_in Mov carry a c x h k l = (omega arith, omega arith)
immediate_in And carry a c x h k l = (omega arith, omega (arith, and_le_l a c, and_le_r a c))
immediate_in Or carry a c x h k l = (omega arith, omega (arith, or_lt 8 a c h k))
immediate_in Xor carry a c x h k l = (omega arith, omega (arith, xor_lt 8 a c h k))
immediate_in Cmp carry a c x h k l = (omega arith, omega arith)
immediate_in Test carry a c x h k l = (omega arith, omega (arith, and_le_l a c))

result_kept : (operation : Operation) (rd : ℕ) → result operation rd ≡ cond (keeps operation) None (Some rd)
result_kept operation rd = grind arith

module _ (image : List ℕ) (i : Instruction) (core : Core) (healthy : Healthy image core.registers core.enabled) where
  moved_written : (rd number : ℕ) (x : Interval) → written i ≡ Some rd → moved number i x ≡ cond (eqb rd number) (computed i x) x
  moved_written rd number x w = ap (λ o. cond (is number o) (computed i x) x) w

  -- one register written, with a value where the instruction's spans have it
  pub effect_written : (core' : Core) (rd value : ℕ) → core'.registers ≡ set core.registers rd value → core'.stack ≡ core.stack → core'.service ≡ core.service → core'.enabled ≡ core.enabled → written i ≡ Some rd → value < 256 → ((x : Interval) → In x (register core rd) → In (computed i x) value) → Effect image i core core'
  effect_written core' rd value e stack service enabled w below within = record {
    healthy = record {
      long = ap length e ∙ length-set core.registers rd value ∙ healthy.long;
      bytes = λ number. subst (λ l. get_or l number 0 < 256) (sym e) (set_below core.registers rd value number healthy.bytes below);
      able = λ on. healthy.able (sym enabled ∙ on);
    };
    stack = stack;
    service = service;
    moves = λ number small x h. subst (λ l. In (moved number i x) (get_or l number 0)) (sym e) (go number small x h (eqb rd number) refl);
  }
    where
      go : (number : ℕ) → number < 32 → (x : Interval) → In x (register core number) → (t : Bool) → eqb rd number ≡ t → In (moved number i x) (get_or (set core.registers rd value) number 0)
      go number small x h true t =
          let same : rd ≡ number = eqb-true rd number t in
          let long = healthy.long in
          let now : get_or (set core.registers rd value) number 0 ≡ value = subst (λ n. get_or (set core.registers rd value) n 0 ≡ value) same (get_or-set_same core.registers rd value 0 (omega arith)) in
          subst (λ y. In y (get_or (set core.registers rd value) number 0)) (sym (moved_written rd number x w ∙ cond-true _ _ _ t))
          (subst (In (computed i x)) (sym now) (within x (subst (λ n. In x (register core n)) (sym same) h)))
      go number small x h false t =
          let apart : number ≢ rd = λ same. eqb-false rd number t (sym same) in
          subst (λ y. In y (get_or (set core.registers rd value) number 0)) (sym (moved_written rd number x w ∙ cond-false _ _ _ t))
          (subst (In x) (sym (get_or-set_other core.registers rd number value 0 apart)) h)

  -- no register written
  pub effect_kept : (core' : Core) → core'.registers ≡ core.registers → core'.stack ≡ core.stack → core'.service ≡ core.service → (core'.enabled ≡ true → interruptible image ≡ true) → written i ≡ None → Effect image i core core'
  effect_kept core' e stack service able w = record {
    healthy = record {
      long = ap length e ∙ healthy.long;
      bytes = λ number. subst (λ l. get_or l number 0 < 256) (sym e) (healthy.bytes number);
      able = able;
    };
    stack = stack;
    service = service;
    moves = λ number small x h. subst (λ l. In (moved number i x) (get_or l number 0)) (sym e) (subst (λ y. In y (register core number)) (sym (ap (λ o. cond (is number o) (computed i x) x) w)) h);
  }

  pub effect_operated : (operation : Operation) (rd second : ℕ) → written i ≡ result operation rd → second < 256 → ((x : Interval) → In x (register core rd) → In (computed i x) (operate operation core.carry (register core rd) second).value) → Effect image i core (operated operation rd second core)
  effect_operated operation rd second w below within = go (keeps operation) (w ∙ result_kept operation rd)
    where
      answer : Computed
      answer = operate operation core.carry (register core rd) second

      go : (kept : Bool) → written i ≡ cond kept None (Some rd) → Effect image i core (cond kept (with_flags answer.carry (eqb answer.value 0) core) (settled rd answer core))
      go true w = effect_kept (with_flags answer.carry (eqb answer.value 0) core) refl refl refl healthy.able w
      go false w = effect_written (settled rd answer core) rd answer.value refl refl refl refl w (operate_below operation core.carry (register core rd) second (healthy.bytes rd) below) within

-- each kind of instruction that computes
module _ (image : List ℕ) (core : Core) (healthy : Healthy image core.registers core.enabled) where
  pub register_effect : (operation : Operation) (rd rb : ℕ) → Effect image (Register operation rd rb) core (operated operation rd (register core rb) core)
  register_effect operation rd rb =
      let below = operate_below operation core.carry (register core rd) (register core rb) (healthy.bytes rd) (healthy.bytes rb) in
      effect_operated image (Register operation rd rb) core healthy operation rd (register core rb) refl (healthy.bytes rb) (λ x h. (omega arith, omega arith))

  pub immediate_effect : (operation : Operation) (rd constant : ℕ) → constant < 256 → Effect image (Immediate operation rd constant) core (operated operation rd constant core)
  immediate_effect operation rd constant small =
      effect_operated image (Immediate operation rd constant) core healthy operation rd constant refl small (λ x h. immediate_in operation core.carry (register core rd) constant x (healthy.bytes rd) small h)

  pub rotate_effect : (rotation : Rotation) (rd rb : ℕ) → Effect image (Rotate rotation rd rb) core (settled rd (rotated rotation core.carry (register core rb)) core)
  rotate_effect rotation rd rb =
      let below = rotated_below rotation core.carry (register core rb) (healthy.bytes rb) in
      effect_written image (Rotate rotation rd rb) core healthy (settled rd (rotated rotation core.carry (register core rb)) core) rd (rotated rotation core.carry (register core rb)).value refl refl refl refl refl below (λ x h. (omega arith, omega arith))

  pub flag_effect : (change : FlagChange) → (enables (Flag change) ≡ true → interruptible image ≡ true) → Effect image (Flag change) core (flagged change core)
  flag_effect Clrc on = effect_kept image (Flag Clrc) core healthy (flagged Clrc core) refl refl refl healthy.able refl
  flag_effect Setc on = effect_kept image (Flag Setc) core healthy (flagged Setc core) refl refl refl healthy.able refl
  flag_effect Clrz on = effect_kept image (Flag Clrz) core healthy (flagged Clrz core) refl refl refl healthy.able refl
  flag_effect Setz on = effect_kept image (Flag Setz) core healthy (flagged Setz core) refl refl refl healthy.able refl
  flag_effect Clri on = effect_kept image (Flag Clri) core healthy (flagged Clri core) refl refl refl (λ off. absurd (false≢true off)) refl
  flag_effect Seti on = effect_kept image (Flag Seti) core healthy (flagged Seti core) refl refl refl (λ h. on refl) refl
