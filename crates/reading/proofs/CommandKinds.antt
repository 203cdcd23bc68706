-- Kinds of commands: their bytes, and the order of their groups. Kinds are gone through as a list, so that no law speaks of pairs of kinds.
use Rattle.reading.proofs.Prelude.{◌≡◌, refl, ap, sym, ◌∙◌, subst, List, [], ◌∷◌, List-as-Memᴰ, Memᴰ-head, Memᴰ-tail, Memᴰ-not-nil}
use Rattle.reading.proofs.Prelude.{Memᴰ-cases_cons, Bool, true, false, ◌&&◌, ◌||◌, ◌⊎◌, inl, inr, some, none, ℕ, zero, suc, ◌+◌, ◌≤◌, ◌<◌, arith}
use Rattle.reading.proofs.Prelude.{dec_lt, eqb, ltb, leb, leb-true, eqb-true, ne_eqb, ltb-true, ltb-false, lt-ltb, and-true, Kind}
use Rattle.reading.proofs.Prelude.{single, sizes, given, show, table, rule, usage, unit, edge, end, byte_of, kind_among, kinds, kind_of, order_of}
use Rattle.reading.proofs.Prelude.{earliest_behind, count, some_behind, late, Plan}

-- ---- bytes

pub kind_of_byte : (k : Kind) → kind_of (byte_of k) ≡ some k
unfolding kind_of
kind_of_byte (single sizes) = refl
kind_of_byte (single given) = refl
kind_of_byte table = refl
kind_of_byte rule = refl
kind_of_byte usage = refl
kind_of_byte unit = refl
kind_of_byte edge = refl
kind_of_byte (single show) = refl
kind_of_byte end = refl

-- what a byte names is listed, and has that byte
record Named (js : List Kind) (b : ℕ) (k : Kind) : Type 0 where
  listed : List-as-Memᴰ k js
  byte : b ≡ byte_of k

named_among : (js : List Kind) (b : ℕ) (k : Kind) → kind_among js b ≡ some k → Named js b k
named_among [] b k e = absurd (let z : ◌≡◌ {A = ℕ} 0 1 = cc in omega arith)
named_among (j ∷ js) b k e = go (eqb b (byte_of j)) refl (named_among js b k)
  where
    first : some j ≡ some k → b ≡ byte_of j → Named (j ∷ js) b k
    first s h =
        let q : j ≡ k = cc in
        record { listed = Memᴰ-head (sym q); byte = subst (λ (i : Kind). b ≡ byte_of i) q h }

    go : (t : Bool) → eqb b (byte_of j) ≡ t → (kind_among js b ≡ some k → Named js b k) → Named (j ∷ js) b k
    go true t rec = first (rw (t, kind_among) at e) (eqb-true _ _ t)
    go false t rec = let n = rec (rw (t, kind_among) at e) in record { listed = Memᴰ-tail n.listed; byte = n.byte }

pub kind_byte : (b : ℕ) (k : Kind) → kind_of b ≡ some k → b ≡ byte_of k
unfolding kind_of
kind_byte b k e = (named_among kinds b k e).byte

pub all_kinds : (k : Kind) → List-as-Memᴰ k kinds
unfolding kind_of
all_kinds k = (named_among kinds (byte_of k) k (kind_of_byte k)).listed

-- no two kinds share a byte
pub byte_own : (j k : Kind) → byte_of j ≡ byte_of k → j ≡ k
byte_own j k e = let same : some j ≡ some k = sym (kind_of_byte j) ∙ ap kind_of e ∙ kind_of_byte k in cc

pub no_kind : (b : ℕ) → ((k : Kind) → ¬ (b ≡ byte_of k)) → kind_of b ≡ none
unfolding kind_of
no_kind b n = among kinds
  where
    among : (js : List Kind) → kind_among js b ≡ none
    among [] = refl
    among (j ∷ js) = rw (ne_eqb _ _ (n j), kind_among) (among js)

-- a test that every kind passes
abbrev pub every : (Kind → Bool) → List Kind → Bool
every test [] = true
every test (j ∷ js) = test j && every test js

pub each_kind : (test : Kind → Bool) → every test kinds ≡ true → (k : Kind) → test k ≡ true
each_kind test all k = among kinds (all_kinds k) all
  where
    among : (js : List Kind) → List-as-Memᴰ k js → every test js ≡ true → test k ≡ true
    among [] m h = absurd (Memᴰ-not-nil m)
    among (j ∷ js) m h = go (Memᴰ-cases_cons m) ((and-true (test j) (every test js)).0 h) (among js)
      where
        go : (k ≡ j) ⊎ List-as-Memᴰ k js → (test j ≡ true) × (every test js ≡ true)
            → (List-as-Memᴰ k js → every test js ≡ true → test k ≡ true) → test k ≡ true
        go (inl e) t rec = ap test e ∙ t.0
        go (inr n) t rec = rec n t.1

-- ---- groups

-- END is the last
pub order_end : (k : Kind) → order_of k ≤ order_of end
order_end k = leb-true _ _ (each_kind (λ j. leb (order_of j) (order_of end)) refl k)

some_of : (m n : ℕ) → ((ltb 0 m && true) || ltb 0 n) ≡ ltb 0 (m + n)
some_of zero n = let e : n ≡ 0 + n = omega arith in ap (ltb 0) e
some_of (suc m) n = simp (lt-ltb 0 (suc m) (omega arith), lt-ltb 0 (suc m + n) (omega arith))

and_none : (a b : Bool) → ((a && false) || b) ≡ b
and_none true b = refl
and_none false b = refl

-- how many commands are read behind which none of this group may come
abbrev pub count_behind : Plan → ℕ → List Kind → ℕ
count_behind p group [] = 0
count_behind p group (j ∷ js) =
    elim (ltb group (order_of (earliest_behind j))) [ true ↦ count p j + count_behind p group js | false ↦ count_behind p group js ]

module _ (p : Plan) (group : ℕ) where
  -- there is one exactly if their count says so
  some_counted : (js : List Kind) → some_behind p group js ≡ ltb 0 (count_behind p group js)
  some_counted [] = refl
  some_counted (j ∷ js) = go (ltb group (order_of (earliest_behind j))) refl (some_counted js)
    where
      go : (t : Bool) → ltb group (order_of (earliest_behind j)) ≡ t → some_behind p group js ≡ ltb 0 (count_behind p group js)
          → some_behind p group (j ∷ js) ≡ ltb 0 (count_behind p group (j ∷ js))
      go true t rec = rw (t, some_behind, count_behind, rec) (some_of (count p j) (count_behind p group js))
      go false t rec = rw (t, some_behind, count_behind, rec) (and_none (ltb 0 (count p j)) (ltb 0 (count_behind p group js)))

  pub late_counted : late p group ≡ ltb 0 (count_behind p group kinds)
  unfolding late
  late_counted = some_counted kinds

  -- a command that is counted, and behind which none of the group may come
  pub record Later : Type 0 where
    pub kind : Kind
    pub behind : group < order_of (earliest_behind kind)
    pub there : 0 < count p kind

  some_later : (js : List Kind) → 0 < count_behind p group js → Later
  some_later [] h = absurd (omega arith)
  some_later (j ∷ js) h = go (ltb group (order_of (earliest_behind j))) refl (some_later js)
    where
      this_or_next : group < order_of (earliest_behind j) → (0 < count_behind p group js → Later) → Dec (0 < count p j)
          → 0 < count p j + count_behind p group js → Later
      this_or_next l rec (yes c) k = record { kind = j; behind = l; there = c }
      this_or_next l rec (no c) k = rec (omega arith)

      go : (t : Bool) → ltb group (order_of (earliest_behind j)) ≡ t → (0 < count_behind p group js → Later) → Later
      go true t rec = this_or_next (ltb-true _ _ t) rec (dec_lt 0 (count p j)) (rw (t, count_behind) at h)
      go false t rec = rec (rw (t, count_behind) at h)

  none_later : (js : List Kind) → count_behind p group js ≤ 0 → (k : Kind) → List-as-Memᴰ k js → group < order_of (earliest_behind k) → count p k ≤ 0
  none_later [] h k m l = absurd (Memᴰ-not-nil m)
  none_later (j ∷ js) h k m l = go (ltb group (order_of (earliest_behind j))) refl (none_later js)
    where
      go : (t : Bool) → ltb group (order_of (earliest_behind j)) ≡ t
          → (count_behind p group js ≤ 0 → (i : Kind) → List-as-Memᴰ i js → group < order_of (earliest_behind i) → count p i ≤ 0) → count p k ≤ 0
      go true t rec = here_or_there (Memᴰ-cases_cons m) (rw (t, count_behind) at h)
        where
          here_or_there : (k ≡ j) ⊎ List-as-Memᴰ k js → count p j + count_behind p group js ≤ 0 → count p k ≤ 0
          here_or_there (inl e) s = omega (arith, ap (count p) e)
          here_or_there (inr n) s = rec (omega arith) k n l
      go false t rec = not_here (Memᴰ-cases_cons m)
        where
          not_here : (k ≡ j) ⊎ List-as-Memᴰ k js → count p k ≤ 0
          not_here (inl e) = absurd (omega (arith, ltb-false group (order_of (earliest_behind j)) t, ap (λ (i : Kind). order_of (earliest_behind i)) e))
          not_here (inr n) = rec (rw (t, count_behind) at h) k n l

  pub later_there : 0 < count_behind p group kinds → Later
  later_there h = some_later kinds h

  pub none_behind : count_behind p group kinds ≤ 0 → (k : Kind) → group < order_of (earliest_behind k) → count p k ≤ 0
  none_behind h k l = none_later kinds h k (all_kinds k) l

-- END never comes too late
pub end_in_time : (p : Plan) → late p (order_of end) ≡ false
end_in_time p = late_counted p (order_of end)
