-- COUNT: the test at END decides whether the declared sizes are those of the lists.
use Rattle.reading.proofs.Prelude.{◌≡◌, refl, sym, List, [], ◌∷◌, List-as-Memᴰ, Memᴰ-head, Bool, true, false, true≢false, not, ◌&&◌, ◌≤◌, arith}
use Rattle.reading.proofs.Prelude.{ℕ_discrete, eqb, ltb, length, lt-ltb, le-ltb, eq-eqb, ne_eqb, not-false, Decides, decides_iff, decides_and}
use Rattle.reading.proofs.Prelude.{decides_not, decides_equal, single, sizes, miscounted, Sizes, Contents, first_sizes, record_of, All, SizesAgree}
use Rattle.reading.proofs.Prelude.{CountRight, Differs, in_rules, in_units, in_edges, Plan}
use Rattle.reading.proofs.Elements.{Few}
use Rattle.reading.proofs.ElementLists.{all_member}

module _ (c : Contents) where
  abbrev agrees : Sizes → Bool
  agrees s = eqb s.rules (length c.rules) && eqb s.units (length c.units) && eqb s.edges (length c.edges)

  decides_agrees : (s : Sizes) → Decides (SizesAgree c s) (agrees s)
  decides_agrees s =
      decides_iff (λ z. record { rules_are = z.0.0; units_are = z.0.1; edges_are = z.1 })
      (λ a. ((a.rules_are, a.units_are), a.edges_are))
      (decides_and (decides_and (decides_equal _ _) (decides_equal _ _)) (decides_equal _ _))

  -- of at most one COUNT the record has the sizes
  abbrev first_wrong : List Sizes → Bool
  first_wrong declared = ltb 0 (length declared) && not (agrees (first_sizes declared))

  decides_first : (declared : List Sizes) → length declared ≤ 1 → Decides (¬ All (SizesAgree c) declared) (first_wrong declared)
  decides_first [] l = record { yes = λ e. absurd (true≢false (sym e)); no = λ e n. n tt }
  decides_first (s ∷ []) l = decides_iff (λ n a. n a.0) (λ n z. n (z, tt)) (decides_not (decides_agrees s))
  decides_first (s ∷ t ∷ declared) l = absurd (omega arith)

  first_right : (declared : List Sizes) → length declared ≤ 1 → first_wrong declared ≡ false → All (SizesAgree c) declared
  first_right [] l e = tt
  first_right (s ∷ []) l e = ((decides_agrees s).yes (not-false _ e), tt)
  first_right (s ∷ t ∷ declared) l e = absurd (omega arith)

  pub counted_right : Few c → miscounted (record_of c) ≡ false → CountRight c
  unfolding miscounted record_of
  counted_right few e = first_right (c.once sizes) (few.under (single sizes)) e

  pub decides_miscounted : Few c → Decides (¬ CountRight c) (miscounted (record_of c))
  unfolding miscounted record_of
  decides_miscounted few = decides_first (c.once sizes) (few.under (single sizes))

  -- sizes that do not agree differ somewhere
  differs_so : (s : Sizes) → ¬ SizesAgree c s → Differs c s
  differs_so s n = go (ℕ_discrete s.rules (length c.rules)) (ℕ_discrete s.units (length c.units))
    where
      go : Dec (s.rules ≡ length c.rules) → Dec (s.units ≡ length c.units) → Differs c s
      go (no r) u = in_rules r
      go (yes r) (no u) = in_units u
      go (yes r) (yes u) = in_edges (λ e. n (record { rules_are = r; units_are = u; edges_are = e }))

  differs_not : (s : Sizes) → Differs c s → ¬ SizesAgree c s
  differs_not s (in_rules n) a = n a.rules_are
  differs_not s (in_units n) a = n a.units_are
  differs_not s (in_edges n) a = n a.edges_are

  -- the first COUNT of at most one is wrong where not all are right
  pub some_wrong : Few c → ¬ CountRight c → (s : Sizes) × List-as-Memᴰ s (c.once sizes) × Differs c s
  some_wrong few = among (c.once sizes) (few.under (single sizes))
    where
      among : (declared : List Sizes) → length declared ≤ 1 → ¬ All (SizesAgree c) declared → (s : Sizes) × List-as-Memᴰ s declared × Differs c s
      among [] l n = absurd (n tt)
      among (s ∷ []) l n = (s, Memᴰ-head refl, differs_so s (λ a. n (a, tt)))
      among (s ∷ t ∷ declared) l n = absurd (omega arith)

  pub none_wrong : CountRight c → (s : Sizes) → List-as-Memᴰ s (c.once sizes) → ¬ Differs c s
  none_wrong a s m d = differs_not s d (all_member (SizesAgree c) (c.once sizes) s a m)

-- ---- the test, as the code goes

module _ (p : Plan) where
  pub not_declared : p.once.declared.count ≡ 0 → false ≡ miscounted p
  unfolding miscounted
  not_declared e = simp (le-ltb 0 p.once.declared.count (omega arith))

  module _ (some : ¬ (p.once.declared.count ≡ 0)) where
    declared_so : ltb 0 p.once.declared.count ≡ true
    declared_so = lt-ltb 0 p.once.declared.count (omega arith)

    pub rules_differ : ¬ (p.once.declared.rules ≡ p.rule_count) → true ≡ miscounted p
    unfolding miscounted
    rules_differ n = simp (declared_so, ne_eqb _ _ n)

    pub units_differ : p.once.declared.rules ≡ p.rule_count → ¬ (p.once.declared.units ≡ p.unit_count) → true ≡ miscounted p
    unfolding miscounted
    units_differ r n = simp (declared_so, eq-eqb _ _ r, ne_eqb _ _ n)

    pub edges_tell : p.once.declared.rules ≡ p.rule_count → p.once.declared.units ≡ p.unit_count
        → not (eqb p.once.declared.edges p.edge_count) ≡ miscounted p
    unfolding miscounted
    edges_tell r u = simp (declared_so, eq-eqb _ _ r, eq-eqb _ _ u)
