-- How long lists are. The members of a list are a family, none within another, and differ on head atoms only: so a list has at most as many as the middle
-- binomial coefficient of the number of head atoms says. A list of cuts has no more: behind different cuts stand different members.
use Rattle.antichains.proofs.Prelude.{◌≡◌, refl, sym, ap, ◌∙◌, subst, ◌⊎◌, inl, inr, List, [], ◌∷◌, List-as-Memᴰ, Memᴰ-head, Memᴰ-tail}
use Rattle.antichains.proofs.Prelude.{Memᴰ-not-nil, Memᴰ-cases_cons, ℕ, suc, ◌≤◌, ◌<◌, arith, length, ◌⊆◌, ◌∩◌, subset_antisym, Units}
use Rattle.antichains.proofs.Prelude.{Passes, Listed, Clean, with_last, last_passes, list_antichain, Shown, ListOf, Incomparable, Antichain}
use Rattle.antichains.proofs.Prelude.{antichain_nil, antichain_cons, middle_binomial, head_atoms_of, FewHeads}
use Rattle.atoms.specs.Rising.{Above, Rising, rising_nil, rising_cons}
use Rattle.atoms.proofs.Rising.{above_at}
use Rattle.antichains.proofs.Sperner.{sperner_around}
use Rattle.antichains.proofs.HeadAtoms.{few_with_last, outside_heads}

-- ---- a family behind a list

-- one set with K behind each word of the list, by f
record Behind (f : ℕ → ℕ) (K : ℕ → Type 0) (list : List ℕ) : Type 0 where
  family : List ℕ
  as_many : length family ≡ length list
  antichain : Antichain family
  each : (N : ℕ) → List-as-Memᴰ N family → K N × List-as-Memᴰ (f N) list

-- behind the words of a rising list stand different sets; where none with K lies within another, they are an antichain
module _ (f : ℕ → ℕ) (K : ℕ → Type 0) (none_within : (M N : ℕ) → K M → K N → M ⊆ N → N ⊆ M) where
  -- what stands behind a word
  abbrev Source : ℕ → Type 0
  Source M = (N : ℕ) × K N × (f N ≡ M)

  behind_more : {M : ℕ} {list : List ℕ} → Above M list → Source M → Behind f K list → Behind f K (M ∷ list)
  behind_more {M} {list} above (N, k, e) b = record {
    family = N ∷ b.family;
    as_many = ap suc b.as_many;
    antichain = antichain_cons incomparable b.antichain;
    each = λ L m. member L (Memᴰ-cases_cons m);
  }
    where
      differ : (L : ℕ) → List-as-Memᴰ L b.family → N ≡ L → ⊥
      differ L m q = omega (arith, above_at above (f L) (b.each L m).1, e, ap f q)

      incomparable : (L : ℕ) → List-as-Memᴰ L b.family → Incomparable N L
      incomparable L m =
          let t = b.each L m in
          record {
            not_within = λ w. differ L m (subset_antisym w (none_within N L k t.0 w));
            not_around = λ w. differ L m (subset_antisym (none_within L N t.0 k w) w);
          }

      member : (L : ℕ) → (L ≡ N) ⊎ List-as-Memᴰ L b.family → K L × List-as-Memᴰ (f L) (M ∷ list)
      member L (inl q) = (subst K (sym q) k, Memᴰ-head (ap f q ∙ e))
      member L (inr m) = let t = b.each L m in (t.0, Memᴰ-tail t.1)

  behind : {list : List ℕ} → Rising list → ((M : ℕ) → List-as-Memᴰ M list → Source M) → Behind f K list
  behind rising_nil g =
      record { family = []; as_many = refl; antichain = antichain_nil; each = λ N m. absurd (Memᴰ-not-nil m) }
  behind (rising_cons {x = M} above r) g = behind_more above (g M (Memᴰ-head refl)) (behind r (λ L m. g L (Memᴰ-tail m)))

-- ---- the length of a list

module _ (S : Units) (pass : Passes S) (n : ℕ) (few : FewHeads n S) where
  -- of a rising list of what f makes of members
  image_most : (f : ℕ → ℕ) (u : ℕ) (list : List ℕ) → u < S.units → Rising list
      → ((M : ℕ) → List-as-Memᴰ M list → (N : ℕ) × Listed S u N × (f N ≡ M)) → length list ≤ middle_binomial n
  image_most f u list l rising source =
      let b = behind f (Listed S u) (list_antichain S pass pass.given_free u l) rising source in
      omega (
        arith,
        b.as_many,
        sperner_around n (head_atoms_of S) S.given b.family few.count b.antichain
            (λ M m. outside_heads S pass u M l (b.each M m).0),
      )

  -- of a unit's list
  pub list_most : (u : ℕ) (list : List ℕ) → u < S.units → ListOf (Listed S u) list → length list ≤ middle_binomial n
  list_most u list l is = image_most (λ N. N) u list l is.rising (λ M m. (M, (is.members M).0 m, refl))

-- of the last list, cut to shown atoms: "a cut last list included"
pub last_most : (S : Units) → Passes S → Clean S → (n : ℕ) (list : List ℕ) → FewHeads n S → ListOf (Shown S) list
    → length list ≤ middle_binomial n
unfolding with_last
last_most S pass clean n list few is =
    image_most (with_last S) (last_passes S clean pass) n (few_with_last n S few) (λ N. N ∩ S.shown) S.units list (omega arith) is.rising
    (λ X m. let t = (is.members X).0 m in (t.whole, t.wanted, sym t.is))
