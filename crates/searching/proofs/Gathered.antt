-- What an insertion adds to a rising list, and how the answers of two searches go together.
use Rattle.searching.proofs.Prelude.{◌≡◌, refl, sym, ap, ◌∙◌, subst, List, [], ◌∷◌, ◌++◌, List-as-Memᴰ, Memᴰ-head, Memᴰ-tail, Memᴰ-not-nil}
use Rattle.searching.proofs.Prelude.{Memᴰ-cases_cons, ◌⊎◌, inl, inr, ℕ, zero, suc, min, ◌+◌, ◌-◌, ◌≤◌, ◌<◌, arith, length, take, drop, replicate}
use Rattle.searching.proofs.Prelude.{length-append, length-take, length-drop, length-replicate, drop-drop, take_at, drop_at, length-take-le, Rising}
use Rattle.searching.proofs.Prelude.{rising_nil, insert_into, insert_at, insert_has, insert_rising, insert_longer, LIST_WORDS, Inserted, room, no_room}
use Rattle.searching.proofs.Prelude.{Ordered, Overfull, LeftOver, Gathered, fits, over, Grown}

-- ---- gathered lists

zeros_same : (n m : ℕ) → n ≡ m → replicate {A = ℕ} n 0 ≡ replicate m 0
zeros_same n m e = ap (λ (k : ℕ). replicate k 0) e

drop_zeros : (n m : ℕ) → drop n (replicate {A = ℕ} m 0) ≡ replicate (m - n) 0
drop_zeros zero m = zeros_same m (m - 0) (omega arith)
drop_zeros (suc n) zero = zeros_same 0 (0 - suc n) (omega arith)
drop_zeros (suc n) (suc m) = drop_zeros n m ∙ zeros_same (m - n) (suc m - suc n) (omega arith)

-- a list whose first words are xs and whose other words are those of an ordered one
ordered_front : (list : List ℕ) (count : ℕ) → Ordered list count → (xs after : List ℕ) (r : ℕ) → r ≡ length xs → r ≤ LIST_WORDS
    → count ≤ r → Rising xs → after ≡ xs ++ drop r list → Ordered after r
ordered_front list count o xs after r e small more rising w = record {
  long = long;
  small = small;
  rising = subst Rising (sym front) rising;
  zeros = zeros;
}
  where
    front : take r after ≡ xs
    front = ap (take r) w ∙ take_at xs (drop r list) r (sym e)

    long : length after ≡ LIST_WORDS
    long =
        let a : length after ≡ length xs + length (drop r list) = ap length w ∙ length-append xs (drop r list) in
        let b : length (drop r list) ≡ length list - r = length-drop r list in
        omega (arith, o.long)

    zeros : drop r after ≡ replicate (LIST_WORDS - r) 0
    zeros =
        let k : count + (r - count) ≡ r = omega arith in
        ap (drop r) w ∙ drop_at xs (drop r list) r (sym e) ∙ ap (λ (n : ℕ). drop n list) (sym k)
        ∙ sym (drop-drop (r - count) count list)
        ∙ ap (drop (r - count)) o.zeros ∙ drop_zeros (r - count) (LIST_WORDS - count)
        ∙ zeros_same ((LIST_WORDS - count) - (r - count)) (LIST_WORDS - r) (omega arith)

take_member : (n : ℕ) (xs : List ℕ) (x : ℕ) → List-as-Memᴰ x (take n xs) → List-as-Memᴰ x xs
take_member zero xs x m = absurd (Memᴰ-not-nil m)
take_member (suc n) [] x m = m
take_member (suc n) (y ∷ xs) x m = go (Memᴰ-cases_cons m) (take_member n xs x)
  where
    go : (x ≡ y) ⊎ List-as-Memᴰ x (take n xs) → (List-as-Memᴰ x (take n xs) → List-as-Memᴰ x xs) → List-as-Memᴰ x (y ∷ xs)
    go (inl e) r = Memᴰ-head e
    go (inr k) r = Memᴰ-tail (r k)

pub front_is : (xs ys after : List ℕ) (r : ℕ) → r ≡ length xs → after ≡ xs ++ ys → take r after ≡ xs
front_is xs ys after r e w = ap (take r) w ∙ take_at xs ys r (sym e)

-- an insertion adds the value
pub gathered_insert : (list : List ℕ) (count value : ℕ) (after : List ℕ) (r : ℕ) → Ordered list count
    → Inserted list count value after r → Gathered (Grown list count (λ x. x ≡ value)) after r
gathered_insert list count value after r o (room e small w) =
    fits
    (ordered_front list count o (insert_into value (take count list)) after r e small more (insert_rising value (take count list) o.rising) w)
    (λ x m. swap (insert_at value (take count list) x (subst (List-as-Memᴰ x) front m)))
    (λ x g. subst (List-as-Memᴰ x) (sym front) (insert_has value (take count list) x (back g)))
  where
    front : take r after ≡ insert_into value (take count list)
    front = front_is (insert_into value (take count list)) (drop r list) after r e w

    more : count ≤ r
    more =
        let a : length (take count list) ≤ length (insert_into value (take count list)) = insert_longer value (take count list) in
        let b : length (take count list) ≡ min count (length list) = length-take count list in
        omega (arith, o.long, o.small)

    swap : {x : ℕ} → (x ≡ value) ⊎ List-as-Memᴰ x (take count list) → Grown list count (λ y. y ≡ value) x
    swap (inl p) = inr p
    swap (inr m) = inl m

    back : {x : ℕ} → Grown list count (λ y. y ≡ value) x → (x ≡ value) ⊎ List-as-Memᴰ x (take count list)
    back (inl m) = inr m
    back (inr p) = inl p
gathered_insert list count value after r o (no_room e w) =
    over
    (record {
      many = insert_into value (take count list);
      rising = insert_rising value (take count list) o.rising;
      long = e;
      sound = λ x m. swap (insert_at value (take count list) x m);
    })
    (record {
      long = ap length w ∙ length-take-le LIST_WORDS (insert_into value (take count list)) (omega arith);
      sound = λ x m. swap (insert_at value (take count list) x (take_member LIST_WORDS (insert_into value (take count list)) x (subst (List-as-Memᴰ x) w m)));
    })
  where
    swap : {x : ℕ} → (x ≡ value) ⊎ List-as-Memᴰ x (take count list) → Grown list count (λ y. y ≡ value) x
    swap (inl p) = inr p
    swap (inr m) = inl m

-- nothing is added
pub gathered_same : (list : List ℕ) (count : ℕ) (Added : ℕ → Type 0) → Ordered list count → ((x : ℕ) → ¬ Added x)
    → Gathered (Grown list count Added) list count
gathered_same list count Added o none = fits o (λ x m. inl m) back
  where
    back : (x : ℕ) → Grown list count Added x → List-as-Memᴰ x (take count list)
    back x (inl m) = m
    back x (inr a) = absurd (none x a)

overfull_for : {Q R : ℕ → Type 0} → ((x : ℕ) → Q x → R x) → Overfull Q → Overfull R
overfull_for f o = record { many = o.many; rising = o.rising; long = o.long; sound = λ x m. f x (o.sound x m) }

left_for : {Q R : ℕ → Type 0} {list : List ℕ} → ((x : ℕ) → Q x → R x) → LeftOver Q list → LeftOver R list
left_for f l = record { long = l.long; sound = λ x m. f x (l.sound x m) }

-- the same positions, said in another way
pub gathered_iff : {Q R : ℕ → Type 0} {list : List ℕ} {r : ℕ} → ((x : ℕ) → Q x → R x) → ((x : ℕ) → R x → Q x)
    → Gathered Q list r → Gathered R list r
gathered_iff f g (fits o s c) = fits o (λ x m. f x (s x m)) (λ x q. c x (g x q))
gathered_iff f g (over o l) = over (overfull_for f o) (left_for f l)

-- a list that is too long stays so
pub gathered_over : {Q R : ℕ → Type 0} {list : List ℕ} {r : ℕ} → ((x : ℕ) → Q x → R x) → LIST_WORDS < r → Gathered Q list r
    → Gathered R list r
gathered_over f l (fits o s c) = absurd (omega (arith, o.small))
gathered_over f l (over o k) = over (overfull_for f o) (left_for f k)

pub gathered_ordered : {Q : ℕ → Type 0} {list : List ℕ} {r : ℕ} → r ≤ LIST_WORDS → Gathered Q list r → Ordered list r
gathered_ordered l (fits o s c) = o
gathered_ordered l (over o k) = absurd (omega arith)

-- first these are added and then those
pub gathered_then : {A B C : ℕ → Type 0} (list₀ : List ℕ) (count₀ : ℕ) (list₁ : List ℕ) (count₁ : ℕ) {list₂ : List ℕ} {count₂ : ℕ}
    → ((x : ℕ) → A x → C x) → ((x : ℕ) → B x → C x) → ((x : ℕ) → C x → A x ⊎ B x) → count₁ ≤ LIST_WORDS
    → Gathered (Grown list₀ count₀ A) list₁ count₁ → Gathered (Grown list₁ count₁ B) list₂ count₂
    → Gathered (Grown list₀ count₀ C) list₂ count₂
gathered_then {A} {B} {C} list₀ count₀ list₁ count₁ a b c l (fits o s h) g = gathered_iff into from g
  where
    widen : {x : ℕ} → Grown list₀ count₀ A x → Grown list₀ count₀ C x
    widen (inl m) = inl m
    widen {x} (inr p) = inr (a x p)

    into : (x : ℕ) → Grown list₁ count₁ B x → Grown list₀ count₀ C x
    into x (inl m) = widen (s x m)
    into x (inr p) = inr (b x p)

    cases : (x : ℕ) → A x ⊎ B x → Grown list₁ count₁ B x
    cases x (inl p) = inl (h x (inr p))
    cases x (inr p) = inr p

    from : (x : ℕ) → Grown list₀ count₀ C x → Grown list₁ count₁ B x
    from x (inl m) = inl (h x (inl m))
    from x (inr p) = cases x (c x p)
gathered_then list₀ count₀ list₁ count₁ a b c l (over o k) g = absurd (omega arith)

-- a list of zeros has no members
pub zeros_ordered : Ordered (replicate {A = ℕ} LIST_WORDS 0) 0
zeros_ordered = record { long = length-replicate {A = ℕ} LIST_WORDS 0; small = omega arith; rising = rising_nil; zeros = refl }
