-- Cuts of wanted positions; the cuts of a list's members: rising, once each, and where every atom shows the list itself.
use Rattle.atoms.proofs.Prelude.{◌≡◌, refl, sym, ap, ◌∙◌, subst, ◌↔◌, ◌⊎◌, inl, inr, List, [], ◌∷◌, List-as-Memᴰ, Memᴰ-head, Memᴰ-tail}
use Rattle.atoms.proofs.Prelude.{Memᴰ-not-nil, Memᴰ-cases_cons, ℕ, ◌^◌, ◌<◌, ATOMS, EVERY_ATOM, ◌∩◌, below, Rising, rising_nil}
use Rattle.atoms.specs.Cuts.{CutOf, cut_list}
use Rattle.atoms.proofs.Sets.{ext, has_cut, cut_left, has_lt, has_below}
use Rattle.atoms.proofs.Rising.{rising_ext}
use Rattle.atoms.proofs.Insertion.{insert_at, insert_has, insert_rising}

pub cut_for : {Q R : ℕ → Type 0} {shown x : ℕ} → ((M : ℕ) → Q M → R M) → CutOf shown Q x → CutOf shown R x
cut_for f c = record { whole = c.whole; wanted = f c.whole c.wanted; is = c.is }

pub cut_all : {M : ℕ} → M < 2 ^ ATOMS → M ∩ EVERY_ATOM ≡ M
unfolding below
cut_all {M} l = ext (M ∩ EVERY_ATOM) M (λ i h. cut_left M EVERY_ATOM h) (λ i h. has_cut M EVERY_ATOM h (has_below ATOMS i (has_lt M ATOMS l h)))

pub cut_rising : (shown : ℕ) (xs : List ℕ) → Rising (cut_list shown xs)
unfolding cut_list
cut_rising shown [] = rising_nil
cut_rising shown (M ∷ Ms) = insert_rising (M ∩ shown) (cut_list shown Ms) (cut_rising shown Ms)

pub cut_at : (shown : ℕ) (xs : List ℕ) (x : ℕ) → List-as-Memᴰ x (cut_list shown xs) → (M : ℕ) × List-as-Memᴰ M xs × (x ≡ M ∩ shown)
unfolding cut_list
cut_at shown [] x m = absurd (Memᴰ-not-nil m)
cut_at shown (M ∷ Ms) x m = go (insert_at (M ∩ shown) (cut_list shown Ms) x m) (cut_at shown Ms x)
  where
    go : (x ≡ M ∩ shown) ⊎ List-as-Memᴰ x (cut_list shown Ms) → (List-as-Memᴰ x (cut_list shown Ms) → (N : ℕ) × List-as-Memᴰ N Ms × (x ≡ N ∩ shown))
        → (N : ℕ) × List-as-Memᴰ N (M ∷ Ms) × (x ≡ N ∩ shown)
    go (inl e) rest = (M, Memᴰ-head refl, e)
    go (inr k) rest = let r = rest k in (r.0, Memᴰ-tail r.1, r.2)

pub cut_has : (shown : ℕ) (xs : List ℕ) (M x : ℕ) → List-as-Memᴰ M xs → x ≡ M ∩ shown → List-as-Memᴰ x (cut_list shown xs)
unfolding cut_list
cut_has shown [] M x m e = absurd (Memᴰ-not-nil m)
cut_has shown (N ∷ Ns) M x m e = insert_has (N ∩ shown) (cut_list shown Ns) x (go (Memᴰ-cases_cons m) (λ k. cut_has shown Ns M x k e))
  where
    go : (M ≡ N) ⊎ List-as-Memᴰ M Ns → (List-as-Memᴰ M Ns → List-as-Memᴰ x (cut_list shown Ns)) → (x ≡ N ∩ shown) ⊎ List-as-Memᴰ x (cut_list shown Ns)
    go (inl q) rest = inl (e ∙ ap (λ (w : ℕ). w ∩ shown) q)
    go (inr k) rest = inr (rest k)

pub cut_whole : (xs : List ℕ) → Rising xs → ((x : ℕ) → List-as-Memᴰ x xs → x < 2 ^ ATOMS) → cut_list EVERY_ATOM xs ≡ xs
cut_whole xs r f =
    rising_ext (cut_list EVERY_ATOM xs) xs (cut_rising EVERY_ATOM xs) r
    (λ x m. let k = cut_at EVERY_ATOM xs x m in subst (λ (y : ℕ). List-as-Memᴰ y xs) (sym (k.2 ∙ cut_all (f k.0 k.1))) k.1)
    (λ x m. cut_has EVERY_ATOM xs x x m (sym (cut_all (f x m))))

-- the cuts of all that is wanted are the cut list of a list of them
pub cut_of_list : {Q : ℕ → Type 0} (shown : ℕ) (xs : List ℕ) → ((M : ℕ) → List-as-Memᴰ M xs ↔ Q M) → (x : ℕ)
    → List-as-Memᴰ x (cut_list shown xs) ↔ CutOf shown Q x
cut_of_list shown xs f x = (
  λ m. let c = cut_at shown xs x m in record { whole = c.0; wanted = (f c.0).0 c.1; is = c.2 },
  λ c. cut_has shown xs c.whole x ((f c.whole).1 c.wanted) c.is,
)
