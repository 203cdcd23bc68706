-- The theorem of the search: what was met is wanted, and where the search was whole, what shows of it is all that shows of what is wanted.
use Rattle.searching.proofs.Prelude.{◌≡◌, refl, sym, subst, Bool, true, not, false≢true, ◌⊎◌, inl, inr, List, ◌++◌, List-as-Memᴰ}
use Rattle.searching.proofs.Prelude.{Memᴰ-head, Memᴰ-not-nil, Memᴰ-append_cases, Memᴰ-eq_of_singleton, Memᴰ-append_left}
use Rattle.searching.proofs.Prelude.{Memᴰ-append_right, ℕ, ◌<◌, ◌^◌, ATOMS, Has, Apart, ◌∩◌, CutOf, has_lt, has_none, subset_antisym, cut_for}
use Rattle.searching.proofs.Prelude.{Completes, undecided, Wanted, branch_of, State, decided_cases, wanted_back, wanted_after, without_branch}
use Rattle.searching.proofs.Prelude.{some_branch, nogood_stops, Searched, narrowed, stop, leaf, done, full, skip, both, Witnessed, met, none, Shows}
use Rattle.searching.proofs.Prelude.{one, nobody, Option}
use Rattle.searching.proofs.Witnesses.{same_cut}

-- ---- a state that leaves one position

module _ {s : State} (l : Apart s.up s.dropped × (undecided s.up s.dropped ≡ 0)) where
  pub up_completes : Completes s s.up
  up_completes = record {
    has_up = record { each = λ i p. p };
    no_dropped = record { none = λ i p q. l.0.none i q p };
  }

  pub only_up : {M : ℕ} → M < 2 ^ ATOMS → Completes s M → M ≡ s.up
  only_up {M} word c =
      subset_antisym
      (record {
        each = λ i h. go i h (decided_cases s.up s.dropped i (has_lt M ATOMS word h) (λ p. has_none (rw l.1 at p)));
      })
      c.has_up
    where
      go : (i : ℕ) → Has M i → Has s.up i ⊎ Has s.dropped i → Has s.up i
      go i h (inl p) = p
      go i h (inr p) = absurd (c.no_dropped.none i p h)

-- ---- the theorem

-- what shows of M shows of one that was met
abbrev Seen : ℕ → List ℕ → ℕ → Type 0
Seen shown ms M = CutOf shown (λ N. List-as-Memᴰ N ms) (M ∩ shown)

above : {K : ℕ → Type 0} (s : State) (i : ℕ) (phase : Bool) {M : ℕ} → Wanted K (branch_of s i phase) M → Wanted K s M
above s i phase w = record { belongs = w.belongs; completes = without_branch s i phase w.completes }

module _ {K : ℕ → Type 0} {shown : ℕ} where
  pub met_wanted : {s : State} {whole : Bool} {ms : List ℕ} → Searched K shown s whole ms → (M : ℕ) → List-as-Memᴰ M ms → Wanted K s M
  met_wanted (narrowed n x) M m = wanted_back n M (met_wanted x M m)
  met_wanted (stop f) M m = absurd (Memᴰ-not-nil m)
  met_wanted (leaf {s} l k) M m = subst (Wanted K s) (sym (Memᴰ-eq_of_singleton m)) (record { belongs = k; completes = up_completes l })
  met_wanted (done {s} i phase z h x) M m = above s i phase (met_wanted x M m)
  met_wanted (full {s} i phase x) M m = above s i phase (met_wanted x M m)
  met_wanted (skip {s} i phase g k x) M m = above s i phase (met_wanted x M m)
  met_wanted (both {s} i phase {one = ms} x y) M m = go (Memᴰ-append_cases ms m) (λ k. met_wanted x M k) (λ k. met_wanted y M k)
    where
      go : {A B : Type 0} → A ⊎ B → (A → Wanted K (branch_of s i phase) M) → (B → Wanted K (branch_of s i (not phase)) M) → Wanted K s M
      go (inl a) f g = above s i phase (f a)
      go (inr b) f g = above s i (not phase) (g b)

  met_all : ((M : ℕ) → K M → M < 2 ^ ATOMS) → {s : State} {whole : Bool} {ms : List ℕ} → Searched K shown s whole ms → whole ≡ true
      → (M : ℕ) → Wanted K s M → Seen shown ms M
  met_all word (narrowed n x) e M w = met_all word x e M (wanted_after n M w)
  met_all word (stop f) e M w = absurd (f M w)
  met_all word (leaf l k) e M w = record { whole = M; wanted = Memᴰ-head (only_up l (word M w.belongs) w.completes); is = refl }
  met_all word (done {s} i phase {m = m} z h x) e M w =
      let v = above s i phase (met_wanted x m h) in
      record { whole = m; wanted = h; is = same_cut s shown refl z M m (word M w.belongs) (word m v.belongs) w.completes v.completes }
  met_all word (full i phase x) e M w = absurd (false≢true e)
  met_all word (skip i phase g k x) e M w = absurd (nogood_stops g k M w.belongs w.completes)
  met_all word (both {s} i phase {one = ms} {two = ns} x y) e M w =
      go (some_branch s i phase w.completes) (λ v. met_all word x refl M v) (λ v. met_all word y e M v)
    where
      go : Completes (branch_of s i phase) M ⊎ Completes (branch_of s i (not phase)) M → (Wanted K (branch_of s i phase) M → Seen shown ms M)
          → (Wanted K (branch_of s i (not phase)) M → Seen shown ns M) → Seen shown (ms ++ ns) M
      go (inl c) f g = cut_for (λ N k. Memᴰ-append_left ns k) (f (record { belongs = w.belongs; completes = c }))
      go (inr c) f g = cut_for (λ N k. Memᴰ-append_right ms k) (g (record { belongs = w.belongs; completes = c }))

  -- so what shows of what is wanted is what shows of what was met
  pub gathers : ((M : ℕ) → K M → M < 2 ^ ATOMS) → {s : State} {whole : Bool} {ms : List ℕ} → Searched K shown s whole ms → whole ≡ true
      → (x : ℕ) → CutOf shown (Wanted K s) x → CutOf shown (λ M. List-as-Memᴰ M ms) x
  gathers word y e x c = subst (CutOf shown (λ M. List-as-Memᴰ M _)) (sym c.is) (met_all word y e c.whole c.wanted)

  -- and one of them is a witness, or nothing is wanted
  pub witnesses : ((M : ℕ) → K M → M < 2 ^ ATOMS) → {s : State} {whole : Bool} {ms : List ℕ} {w : Option ℕ} → Searched K shown s whole ms → whole ≡ true
      → Shows ms w → Witnessed (Wanted K s) w
  witnesses word x e (one {M} m) = met (met_wanted x M m)
  witnesses word x e (nobody z) = none (λ M w. Memᴰ-not-nil (subst (List-as-Memᴰ _) z (met_all word x e M w).wanted))
