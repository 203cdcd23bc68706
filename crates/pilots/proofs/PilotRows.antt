-- Rows of a table that a state leaves, and what they tell of inputs and of the pilot.
use Rattle.pilots.proofs.Prelude.{◌≡◌, refl, sym, subst, ◌∙◌, Bool, true, false, not, ℕ, ◌^◌, ◌<◌, not-true, ATOMS, Has, ◌⊆◌, subset, Apart, apart}
use Rattle.pilots.proofs.Prelude.{◌∩◌, ◌∪◌, outside, Collects, has_dec, has_none, has_cut, has_left, has_outside, decides_has, decides_apart}
use Rattle.pilots.proofs.Prelude.{decides_subset, without_left, decided_true, decided_false, Completes, half_decided, narrows_trans, narrows_when}
use Rattle.pilots.proofs.Prelude.{clash_narrows, up_narrows, down_narrows, row, table_answer, RowReached, EachRow, NoRow, row_lt, FollowsWords}
use Rattle.pilots.proofs.Prelude.{RowAmong}
use Rattle.states.specs.Narrowing.{Narrows, clashed}
use Rattle.states.specs.declared.state.State.{State}
use Rattle.contact_tables.proofs.ToldInputs.{told_completes}

-- ---- what tests of two words say

pub tested_apart : (a b : ℕ) {t : Bool} → t ≡ apart a b → t ≡ true → Apart a b
tested_apart a b e f = (decides_apart a b).yes (sym e ∙ f)

pub tested_shared : (a b : ℕ) {t : Bool} → t ≡ apart a b → not t ≡ true → ¬ Apart a b
tested_shared a b {t} e f = (decides_apart a b).no (sym e ∙ not-true t f)

pub tested_within : (a b : ℕ) {t : Bool} → t ≡ subset a b → t ≡ true → a ⊆ b
tested_within a b e f = (decides_subset a b).yes (sym e ∙ f)

-- ---- the rows that are left

-- who completes a state completes what it is read as
half_completes : (up dropped : ℕ) {N : ℕ} → Completes (record { up = up; dropped = dropped }) N → Completes (half_decided up dropped) N
half_completes up dropped c = record {
  has_up = c.has_up;
  no_dropped = record { none = λ i h. c.no_dropped.none i (without_left dropped up h) };
}

-- so its row is left
row_left : {inputs up dropped left N : ℕ} → Collects (RowReached inputs up dropped) left → Completes (record { up = up; dropped = dropped }) N
    → Has left (row inputs N)
row_left {up = up} {dropped} {N = N} c d = c.all _ (record { position = N; completes = half_completes up dropped d; is = refl })

-- ---- inputs

-- no row is left of those that it may be: nothing completes the state
pub none_left : {inputs rows reached left : ℕ} {s t : State} → Collects (RowReached inputs s.up s.dropped) reached → left ≡ reached ∩ rows → left ≡ 0
    → t ≡ clashed s → Narrows (RowAmong inputs rows) s t
none_left {inputs} {rows} {reached} {s = s} c e z f =
    rw f (clash_narrows s (λ N k d. has_none (subst (λ (w : ℕ). Has w (row inputs N)) (sym e ∙ z) (has_cut reached rows (row_left c d) k.among))))

-- what the rows that are left tell of the inputs
pub inputs_told : {inputs rows reached left up dropped : ℕ} {s t : State} → inputs < 2 ^ ATOMS → Collects (RowReached inputs s.up s.dropped) reached
    → left ≡ reached ∩ rows → Collects (EachRow inputs left) t.up → Collects (NoRow inputs left) t.dropped → up ≡ s.up ∪ t.up
    → dropped ≡ s.dropped ∪ t.dropped → Narrows (RowAmong inputs rows) s (record { up = up; dropped = dropped })
inputs_told {inputs} {rows} {reached} {left} {s = s} {t} fits c e u d f g =
    rw (f, g)
    (narrows_trans (up_narrows s t.up (λ N k m. (told N k m).has_up))
    (down_narrows (record { up = s.up ∪ t.up; dropped = s.dropped }) t.dropped (λ N k m. (told N k (fewer_up N m)).no_dropped)))
  where
    fewer_up : (N : ℕ) → Completes (record { up = s.up ∪ t.up; dropped = s.dropped }) N → Completes s N
    fewer_up N m = record { has_up = record { each = λ a h. m.has_up.each a (has_left s.up t.up h) }; no_dropped = m.no_dropped }

    told : (N : ℕ) → RowAmong inputs rows N → Completes s N → Completes t N
    told N k m = told_completes fits u d (rw e (has_cut reached rows (row_left c m) k.among))

-- ---- the pilot

-- what a table says, by its row
says_true : (inputs truth N : ℕ) → Has truth (row inputs N) → table_answer inputs truth N ≡ true
unfolding table_answer
says_true inputs truth N h = decided_true (decides_has truth (row inputs N)) h

says_false : (inputs truth N : ℕ) → ¬ Has truth (row inputs N) → table_answer inputs truth N ≡ false
unfolding table_answer
says_false inputs truth N h = decided_false (decides_has truth (row inputs N)) h

module _ {inputs truth pilot : ℕ} (s : State) {t : State} where
  -- a pilot that is up tells that the row is in the truth word
  pub pilot_up : ¬ Apart pilot s.up → Narrows (RowAmong inputs truth) s t → Narrows (FollowsWords inputs truth pilot) s t
  pilot_up h n = narrows_when (λ N k d. record { among = go N k d (has_dec truth (row inputs N)) }) n
    where
      go : (N : ℕ) → FollowsWords inputs truth pilot N → Completes s N → Dec (Has truth (row inputs N)) → Has truth (row inputs N)
      go N k d (yes p) = p
      go N k d (no p) =
          absurd (h (record { none = λ a q u. (k.when_false (says_false inputs truth N p)).none a q (d.has_up.each a u) }))

  -- and one that is dropped that it is not
  pub pilot_dropped : {others : ℕ} → ¬ Apart pilot s.dropped → others ≡ outside truth → Narrows (RowAmong inputs others) s t
      → Narrows (FollowsWords inputs truth pilot) s t
  pilot_dropped h e n = narrows_when (λ N k d. record { among = rw e (go N k d (has_dec truth (row inputs N))) }) n
    where
      go : (N : ℕ) → FollowsWords inputs truth pilot N → Completes s N → Dec (Has truth (row inputs N)) → Has (outside truth) (row inputs N)
      go N k d (yes p) =
          absurd (h (record { none = λ a q u. d.no_dropped.none a u ((k.when_true (says_true inputs truth N p)).each a q) }))
      go N k d (no p) = has_outside truth (row_lt inputs N) p

module _ {inputs truth pilot left : ℕ} (s : State) (c : Collects (RowReached inputs s.up s.dropped) left) where
  -- all rows that are left are in the truth word
  pub all_true : {up : ℕ} → left ⊆ truth → up ≡ s.up ∪ pilot → Narrows (FollowsWords inputs truth pilot) s (record { up = up; dropped = s.dropped })
  all_true f e = rw e (up_narrows s pilot (λ N k d. k.when_true (says_true inputs truth N (f.each _ (row_left c d)))))

  -- none is
  pub all_false : {down : ℕ} → Apart left truth → down ≡ s.dropped ∪ pilot
      → Narrows (FollowsWords inputs truth pilot) s (record { up = s.up; dropped = down })
  all_false f e = rw e (down_narrows s pilot (λ N k d. k.when_false (says_false inputs truth N (f.none _ (row_left c d)))))
