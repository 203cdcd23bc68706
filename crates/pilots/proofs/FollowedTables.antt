-- Pilots at a full position: one row is left there, and it tells what the table says.
use Rattle.pilots.proofs.Prelude.{◌≡◌, refl, sym, subst, ◌∙◌, Bool, true, false, true≢false, false≢true, List, ℕ, ◌+◌, ◌≤◌, ◌<◌, arith}
use Rattle.pilots.proofs.Prelude.{ℕ_discrete, get_or, ATOMS, Has, ◌⊆◌, subset, apart, outside, Decides, Collects, ext, has_dec, has_outside}
use Rattle.pilots.proofs.Prelude.{has_without, without_right, subset_refl, decides_has, decides_subset, decides_apart}
use Rattle.pilots.proofs.Prelude.{has_none, decided_true, decided_false, MAX_INPUTS, MAX_TABLES, Completes, half_decided, row, table_answer, RowReached}
use Rattle.pilots.proofs.Prelude.{UpAt, row_bit, FollowsWords, FollowsTable, FollowAll, NoPilots}

-- ---- one row

module _ (inputs M : ℕ) {down rows : ℕ} (e : down ≡ outside M) (c : Collects (RowReached inputs M down) rows) where
  here : Has rows (row inputs M)
  here = c.all _ (record {
    position = M;
    completes = record { has_up = subset_refl; no_dropped = record { none = λ i d u. without_right down M d u } };
    is = refl;
  })

  same_row : (N : ℕ) → Completes (half_decided M down) N → row inputs M ≡ row inputs N
  same_row N d =
      ext (row inputs M) (row inputs N) (λ k h. (row_bit inputs N k).1 (up k ((row_bit inputs M k).0 h)))
      (λ k h. (row_bit inputs M k).1 (down_to k ((row_bit inputs N k).0 h)))
    where
      up : (k : ℕ) → (k < MAX_INPUTS) × UpAt inputs M k → (k < MAX_INPUTS) × UpAt inputs N k
      up k (l, u) = (l, record { at = u.at; at_lt = u.at_lt; input = u.input; is_up = d.has_up.each u.at u.is_up; placed = u.placed })

      still : (a : ℕ) → a < ATOMS → Has N a → Dec (Has M a) → Has M a
      still a l h (yes p) = p
      still a l h (no p) = absurd (d.no_dropped.none a (has_without down M (rw e (has_outside M l p)) p) h)

      down_to : (k : ℕ) → (k < MAX_INPUTS) × UpAt inputs N k → (k < MAX_INPUTS) × UpAt inputs M k
      down_to k (l, u) =
          (l, record { at = u.at; at_lt = u.at_lt; input = u.input; is_up = still u.at u.at_lt u.is_up (has_dec M u.at); placed = u.placed })

  -- it tells what the table says
  pub row_true : {truth : ℕ} → rows ⊆ truth → table_answer inputs truth M ≡ true
  unfolding table_answer
  row_true {truth} f = decided_true (decides_has truth (row inputs M)) (f.each _ here)

  pub row_false : {truth : ℕ} → ¬ (rows ⊆ truth) → table_answer inputs truth M ≡ false
  unfolding table_answer
  row_false {truth} f =
      decided_false (decides_has truth (row inputs M))
      (λ h. f (record { each = λ j p. let r = c.each j p in subst (Has truth) (same_row r.position r.completes ∙ r.is) h }))

-- ---- one pilot

-- no pilot follows
pub follows_nothing : {inputs truth w M : ℕ} → w ≡ 0 → Decides (FollowsWords inputs truth w M) true
follows_nothing e = record {
  yes = λ f. record {
    when_true = λ b. record { each = λ i h. absurd (has_none (rw e at h)) };
    when_false = λ b. record { none = λ i h. absurd (has_none (rw e at h)) };
  };
  no = λ f. absurd (true≢false f);
}

module _ {inputs truth w M : ℕ} {r : Bool} where
  pub follows_true : table_answer inputs truth M ≡ true → r ≡ subset w M → Decides (FollowsWords inputs truth w M) r
  follows_true a e = record {
    yes = λ f. record {
      when_true = λ b. (decides_subset w M).yes (sym e ∙ f);
      when_false = λ b. absurd (true≢false (sym a ∙ b));
    };
    no = λ f k. (decides_subset w M).no (sym e ∙ f) (k.when_true a);
  }

  pub follows_false : table_answer inputs truth M ≡ false → r ≡ apart w M → Decides (FollowsWords inputs truth w M) r
  follows_false a e = record {
    yes = λ f. record {
      when_true = λ b. absurd (true≢false (sym b ∙ a));
      when_false = λ b. (decides_apart w M).yes (sym e ∙ f);
    };
    no = λ f k. (decides_apart w M).no (sym e ∙ f) (k.when_false a);
  }

-- ---- all pilots

-- those below t follow their tables
pub record Followed (rules pilots : List ℕ) (M t : ℕ) : Type 0 where
  pub each : (u : ℕ) → u < t → FollowsTable rules u (get_or pilots u 0) M

pub followed_start : {rules pilots : List ℕ} {M : ℕ} → Followed rules pilots M 0
followed_start = record { each = λ u l. absurd (omega (arith, l)) }

pub followed_next : {rules pilots : List ℕ} {M t : ℕ} → Followed rules pilots M t → FollowsTable rules t (get_or pilots t 0) M → Followed rules pilots M (t + 1)
followed_next {rules} {pilots} {M} {t} k f = record { each = λ u l. go u l (ℕ_discrete t u) }
  where
    go : (u : ℕ) → u < t + 1 → Dec (t ≡ u) → FollowsTable rules u (get_or pilots u 0) M
    go u l (yes q) = subst (λ (x : ℕ). FollowsTable rules x (get_or pilots x 0) M) q f
    go u l (no n) = k.each u (omega (arith, l, n))

pub followed_end : {rules pilots : List ℕ} {M t : ℕ} → Followed rules pilots M t → MAX_TABLES ≤ t → Decides (FollowAll rules pilots M) true
followed_end k l = record { yes = λ e. record { each = λ u m. k.each u (omega (arith, l, m)) }; no = λ e. absurd (true≢false e) }

pub not_followed : {rules pilots : List ℕ} {M t : ℕ} → t < MAX_TABLES → ¬ FollowsTable rules t (get_or pilots t 0) M → Decides (FollowAll rules pilots M) false
not_followed {t = t} l n = record { yes = λ e. absurd (false≢true e); no = λ e f. n (f.each t l) }

-- without pilots nothing is to follow
pub none_follow : {rules pilots : List ℕ} {M : ℕ} → NoPilots pilots → Decides (FollowAll rules pilots M) true
none_follow n = record { yes = λ e. record { each = λ t l. (follows_nothing (n.each t l)).yes refl }; no = λ e. absurd (true≢false e) }
