-- Bytes have one meaning at most, and a job that is written down reads back as that job. Assumes nothing.
use Rattle.std.proofs.Common.{◌≡◌, ℕ, ◌+◌, ◌-◌, ◌*◌, ◌^◌, ◌<◌, Bool, true, false, cond, ltb, List, [], ◌∷◌, ◌++◌, map, length, sym, refl, ap, ◌∙◌, subst, append_assoc, append-nil, arith, length-append}
use Rattle.std.proofs.ByRecursion.{All-append}
use Rattle.std.proofs.lemmas.Bool.{lt-ltb}
use Rattle.std.specs.List.{flat_map, AllByRecursion}
use Rattle.ledger.specs.declared.owned.OwnedPages.{OwnedPages}
use Rattle.jobs.specs.declared.record.Record.{Record}
use Rattle.jobs.specs.declared.record.Record.TheVariants.{Pages, Word, Tick}
use Rattle.jobs.specs.Jobs.{Within, Longest, Reading, accepted, verdict, Read, Storable, written_job, ReadingLaws, pages_from, words_of, ticks_of}
use Rattle.jobs.specs.Records.{written, Writable}
use Rattle.jobs.proofs.Prefix.{same_record}
use Rattle.jobs.proofs.Sofar.{words_append, ticks_append, pages_append}
use Rattle.jobs.proofs.Verdicts.{none_left}

-- fewer records are within the limits too
fewer : (front rest : List Record) → Within (front ++ rest) → Within front
fewer front rest h =
    let w = ap length (words_append front rest) ∙ length-append (words_of front) (words_of rest) in
    let t = ap length (ticks_append front rest) ∙ length-append (ticks_of front) (ticks_of rest) in
    (omega arith, omega arith)

-- what follows the records `done` is cut into records in one way only
same_front : (done xs ys : List Record) (x y : List ℕ) → flat_map written xs ++ x ≡ flat_map written ys ++ y → AllByRecursion Writable xs → AllByRecursion Writable ys → Within (done ++ xs) → Within (done ++ ys) → Longest (done ++ xs) x → Longest (done ++ ys) y → (xs ≡ ys) × (x ≡ y)
same_front done [] [] x y e fx fy wx wy lx ly = (refl, e)
same_front done [] (b ∷ ys) x y e fx fy wx wy lx ly =
    absurd (lx b (flat_map written ys ++ y) fy.0 (e ∙ append_assoc (written b) (flat_map written ys) y)
    (rw (append-nil done) (fewer (done ++ b ∷ []) ys (rw (append_assoc done (b ∷ []) ys) wy))))
same_front done (a ∷ xs) [] x y e fx fy wx wy lx ly =
    absurd (ly a (flat_map written xs ++ x) fx.0 (sym e ∙ append_assoc (written a) (flat_map written xs) x)
    (rw (append-nil done) (fewer (done ++ a ∷ []) xs (rw (append_assoc done (a ∷ []) xs) wx))))
same_front done (a ∷ xs) (b ∷ ys) x y e fx fy wx wy lx ly =
    let heads = same_record a b (flat_map written xs ++ x) (flat_map written ys ++ y) (sym (append_assoc (written a) (flat_map written xs) x) ∙ e ∙ append_assoc (written b) (flat_map written ys) y) in
    let next : List Record = done ++ a ∷ [] in
    let onto : (zs : List Record) → next ++ zs ≡ done ++ (a ∷ zs) = λ zs. append_assoc done (a ∷ []) zs in
    let turn : done ++ (b ∷ ys) ≡ next ++ ys = ap (λ r. done ++ (r ∷ ys)) (sym heads.0) ∙ sym (onto ys) in
    let tails = same_front next xs ys x y heads.1 fx.1 fy.1 (subst Within (sym (onto xs)) wx) (subst Within turn wy) (subst (λ rs. Longest rs x) (sym (onto xs)) lx) (subst (λ rs. Longest rs y) turn ly) in
    ((λ i. heads.0 i ∷ tails.0 i), tails.1)

one_reading : (bytes : List ℕ) (a b : Reading) → Read bytes a → Read bytes b → a ≡ b
one_reading bytes a b p q =
    let same = same_front [] p.records q.records p.rest q.rest (sym p.front.whole ∙ q.front.whole) p.front.writable q.front.writable p.front.within q.front.within p.longest q.longest in
    p.told ∙ (λ i. verdict (same.0 i) (same.1 i) (length bytes - length (same.1 i))) ∙ sym q.told

one_meaning_at : (t : Bool) (bytes : List ℕ) (c : Reading) (a b : Reading) → cond t (Read bytes a) (a ≡ c) → cond t (Read bytes b) (b ≡ c) → a ≡ b
one_meaning_at true bytes c a b p q = one_reading bytes a b p q
one_meaning_at false bytes c a b p q = p ∙ sym q

-- what the lists of words and of ticks write
words_of_words : (ws : List ℕ) → words_of (map (λ w. Word w) ws) ≡ ws
words_of_words [] = refl
words_of_words (w ∷ ws) = ap (λ l. w ∷ l) (words_of_words ws)

words_of_ticks : (ts : List ℕ) → words_of (map (λ t. Tick t) ts) ≡ []
words_of_ticks [] = refl
words_of_ticks (t ∷ ts) = words_of_ticks ts

ticks_of_words : (ws : List ℕ) → ticks_of (map (λ w. Word w) ws) ≡ []
ticks_of_words [] = refl
ticks_of_words (w ∷ ws) = ticks_of_words ws

ticks_of_ticks : (ts : List ℕ) → ticks_of (map (λ t. Tick t) ts) ≡ ts
ticks_of_ticks [] = refl
ticks_of_ticks (t ∷ ts) = ap (λ l. t ∷ l) (ticks_of_ticks ts)

pages_of_words : (p : OwnedPages) (ws : List ℕ) → pages_from p (map (λ w. Word w) ws) ≡ p
pages_of_words p [] = refl
pages_of_words p (w ∷ ws) = pages_of_words p ws

pages_of_ticks : (p : OwnedPages) (ts : List ℕ) → pages_from p (map (λ t. Tick t) ts) ≡ p
pages_of_ticks p [] = refl
pages_of_ticks p (t ∷ ts) = pages_of_ticks p ts

words_writable : (ws : List ℕ) → AllByRecursion (λ w. w < 2 ^ 24) ws → AllByRecursion Writable (map (λ w. Word w) ws)
words_writable [] h = tt
words_writable (w ∷ ws) h = (h.0, words_writable ws h.1)

ticks_writable : (ts : List ℕ) → AllByRecursion (λ t. t < 2 ^ 16) ts → AllByRecursion Writable (map (λ t. Tick t) ts)
ticks_writable [] h = tt
ticks_writable (t ∷ ts) h = (h.0, ticks_writable ts h.1)

words_length : (ws : List ℕ) (rs : List Record) → length (flat_map written (map (λ w. Word w) ws ++ rs)) ≡ 4 * length ws + length (flat_map written rs)
words_length [] rs = omega arith
words_length (w ∷ ws) rs = omega (arith, words_length ws rs)

ticks_length : (ts : List ℕ) → length (flat_map written (map (λ t. Tick t) ts)) ≡ 3 * length ts
ticks_length [] = refl
ticks_length (t ∷ ts) = omega (arith, ticks_length ts)

module _ (pages : OwnedPages) (words ticks : List ℕ) (fits : Storable pages words ticks) where
  lists : List Record
  lists = map (λ w. Word w) words ++ map (λ t. Tick t) ticks

  same_words : words_of lists ≡ words
  unfolding lists
  same_words = words_append (map (λ w. Word w) words) (map (λ t. Tick t) ticks) ∙ (λ i. words_of_words words i ++ words_of_ticks ticks i) ∙ append-nil words

  same_ticks : ticks_of lists ≡ ticks
  unfolding lists
  same_ticks = ticks_append (map (λ w. Word w) words) (map (λ t. Tick t) ticks) ∙ (λ i. ticks_of_words words i ++ ticks_of_ticks ticks i)

  same_pages : pages_from pages lists ≡ pages
  unfolding lists
  same_pages = pages_append pages (map (λ w. Word w) words) (map (λ t. Tick t) ticks) ∙ ap (λ p. pages_from p (map (λ t. Tick t) ticks)) (pages_of_words pages words) ∙ pages_of_ticks pages ticks

  read_back : Read (written_job pages words ticks) (accepted pages words ticks)
  unfolding lists
  read_back = record {
    records = Pages pages.first pages.last ∷ lists;
    rest = [];
    front = record {
      whole = sym (append-nil (written_job pages words ticks));
      writable = (fits.pages_fit, All-append Writable _ _ (words_writable words fits.words_fit) (ticks_writable ticks fits.ticks_fit));
      within = (omega (arith, ap length same_words, fits.few_words), omega (arith, ap length same_ticks, fits.few_ticks));
    };
    longest = none_left (Pages pages.first pages.last ∷ lists);
    told = sym (λ i. accepted (same_pages i) (same_words i) (same_ticks i));
  }

  short : length (written_job pages words ticks) < 2 ^ 16
  unfolding lists
  short = omega (arith, words_length words (map (λ t. Tick t) ticks), ticks_length ticks, fits.few_words, fits.few_ticks)

pub reading_laws : ReadingLaws
reading_laws = record {
  one_meaning = λ bytes a b p q. one_meaning_at (ltb (length bytes) (2 ^ 16)) bytes _ a b p q;
  reads_back = λ pages words ticks fits. rw (lt-ltb _ _ (short pages words ticks fits)) (read_back pages words ticks fits);
}
