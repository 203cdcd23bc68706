-- A unit with pilots: what is wanted of it, apart from its pilots, is what is wanted of the unit.
use Rattle.searching.proofs.Prelude.{◌≡◌, sym, subst, ◌∙◌, Bool, true, false, true≢false, ◌⊎◌, inl, inr, List, ℕ, ◌<◌, get_or}
use Rattle.searching.proofs.Prelude.{Has, ◌⊆◌, Apart, ◌∩◌, ◌∪◌, ◌∖◌, union_in, word_below, ext, has_cut, cut_left, cut_right, has_left}
use Rattle.searching.proofs.Prelude.{has_right, has_without, without_left, without_right, union_cases, union_has, union_at}
use Rattle.searching.proofs.Prelude.{word_has, word_at, MAX_TABLES, inputs, truth, Completes, State, FollowAll, Job, AlikeBut, Piloted, AllDown}
use Rattle.contact_tables.specs.ContactTable.{table_answer}
use Rattle.contact_tables.proofs.RowBits.{answer_same}
use Rattle.searching.proofs.SpareAtoms.{alike_with}

-- the pilots of the tables that are true at N
unfoldable pub lit_at : List ℕ → List ℕ → ℕ → ℕ
lit_at rules pilots N =
    union_in MAX_TABLES (word_below MAX_TABLES (λ t. table_answer (inputs rules t) (truth rules t) N)) (λ t. get_or pilots t 0)

module _ {rules heads pilots : List ℕ} {unit : Job} {X : ℕ} (p : Piloted rules heads pilots unit X) where
  -- what a table says does not hang on pilots
  says_alike : (t : ℕ) → t < MAX_TABLES → {M N : ℕ} → AlikeBut X M N
      → table_answer (inputs rules t) (truth rules t) M ≡ table_answer (inputs rules t) (truth rules t) N
  says_alike t l {M} {N} a =
      answer_same (inputs rules t) (truth rules t) M N
      (ext (inputs rules t ∩ M) (inputs rules t ∩ N)
      (λ i h. let q = cut_left (inputs rules t) M h in
      has_cut (inputs rules t) N q ((a.elsewhere i ((p.no_inputs.each t l).none i q)).0 (cut_right (inputs rules t) M h)))
      (λ i h. let q = cut_left (inputs rules t) N h in
      has_cut (inputs rules t) M q ((a.elsewhere i ((p.no_inputs.each t l).none i q)).1 (cut_right (inputs rules t) N h))))

  pub lit_within : (N : ℕ) → lit_at rules pilots N ⊆ X
  unfolding lit_at
  lit_within N = record {
    each = λ a h.
        let u = union_at MAX_TABLES (word_below MAX_TABLES (λ t. table_answer (inputs rules t) (truth rules t) N)) (λ t. get_or pilots t 0) a h in
        (p.within u.0 u.1).each a u.3;
  }

  -- a position without pilots, with those of the tables that are true: they follow
  pub lit_follow : (N : ℕ) → Apart X N → FollowAll rules pilots (N ∪ lit_at rules pilots N)
  unfolding lit_at
  lit_follow N off = record {
    each = λ t l. record {
      when_true = λ e. record {
        each = λ a h.
            has_right N W
            (union_has MAX_TABLES lit (λ t. get_or pilots t 0) t a l (word_has MAX_TABLES says t l (says_alike t l (alike_with X N within) ∙ e)) h);
      };
      when_false = λ e. record { none = λ a h m. go t l e a h (union_cases N W m) };
    };
  }
    where
      says : ℕ → Bool
      says t = table_answer (inputs rules t) (truth rules t) N

      lit : ℕ
      lit = word_below MAX_TABLES says

      W : ℕ
      W = union_in MAX_TABLES lit (λ t. get_or pilots t 0)

      within : W ⊆ X
      within = lit_within N

      go : (t : ℕ) → t < MAX_TABLES → table_answer (inputs rules t) (truth rules t) (N ∪ W) ≡ false → (a : ℕ) → Has (get_or pilots t 0) a
          → Has N a ⊎ Has W a → ⊥
      go t l e a h (inl m) = off.none a ((p.within t l).each a h) m
      go t l e a h (inr m) =
          let u = union_at MAX_TABLES lit (λ t. get_or pilots t 0) a m in
          let same = p.distinct.same u.0 t a u.1 l u.3 h in
          true≢false
          (sym (subst (λ (x : ℕ). says x ≡ true) same (word_at MAX_TABLES says u.0 u.2).1) ∙ says_alike t l (alike_with X N within) ∙ e)

-- ---- states

module _ {s : State} {X : ℕ} (p : AllDown X s) where
  -- the state in which the pilots are open
  abbrev pub opened : State
  opened = record { up = s.up; dropped = s.dropped ∖ X }

  pub opened_with : {N W : ℕ} → W ⊆ X → Completes s N → Completes opened (N ∪ W)
  opened_with {N} {W} f c = record {
    has_up = record { each = λ i h. has_left N W (c.has_up.each i h) };
    no_dropped = record { none = λ i h m. go i h (union_cases N W m) };
  }
    where
      go : (i : ℕ) → Has (s.dropped ∖ X) i → Has N i ⊎ Has W i → ⊥
      go i h (inl m) = c.no_dropped.none i (without_left s.dropped X h) m
      go i h (inr m) = without_right s.dropped X h (f.each i m)

  pub opened_without : {M : ℕ} → Completes opened M → Completes s (M ∖ X)
  opened_without {M} c = record {
    has_up = record { each = λ i h. has_without M X (c.has_up.each i h) (p.not_up.none i h) };
    no_dropped = record {
      none = λ i h m. c.no_dropped.none i (has_without s.dropped X h (without_right M X m)) (without_left M X m);
    };
  }

  -- who completes the state has no pilot
  pub pilots_off : {N : ℕ} → Completes s N → Apart X N
  pilots_off c = record { none = λ i h m. c.no_dropped.none i (p.dropped.each i h) m }

-- ---- cuts

pub cut_with : (X shown : ℕ) {N W : ℕ} → Apart X N → W ⊆ X → (N ∪ W) ∩ (shown ∖ X) ≡ N ∩ shown
cut_with X shown {N} {W} off f =
    ext ((N ∪ W) ∩ (shown ∖ X)) (N ∩ shown)
    (λ i h. let q = cut_right (N ∪ W) (shown ∖ X) h in
    has_cut N shown (go i (without_right shown X q) (union_cases N W (cut_left (N ∪ W) (shown ∖ X) h))) (without_left shown X q))
    (λ i h. has_cut (N ∪ W) (shown ∖ X) (has_left N W (cut_left N shown h))
    (has_without shown X (cut_right N shown h) (λ x. off.none i x (cut_left N shown h))))
  where
    go : (i : ℕ) → ¬ Has X i → Has N i ⊎ Has W i → Has N i
    go i n (inl h) = h
    go i n (inr h) = absurd (n (f.each i h))

pub cut_without : (X shown M : ℕ) → M ∩ (shown ∖ X) ≡ (M ∖ X) ∩ shown
cut_without X shown M =
    ext (M ∩ (shown ∖ X)) ((M ∖ X) ∩ shown)
    (λ i h. let q = cut_right M (shown ∖ X) h in
    has_cut (M ∖ X) shown (has_without M X (cut_left M (shown ∖ X) h) (without_right shown X q)) (without_left shown X q))
    (λ i h. let q = cut_left (M ∖ X) shown h in
    has_cut M (shown ∖ X) (without_left M X q) (has_without shown X (cut_right (M ∖ X) shown h) (without_right M X q)))
