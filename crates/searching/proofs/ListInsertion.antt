-- Insertion: the code's loop follows `insert_into`, which keeps a rising list rising and adds one member.
use Rattle.searching.proofs.Prelude.{◌≡◌, refl, sym, ap, ap₂, ◌∙◌, List, [], ◌∷◌, ◌++◌, append_assoc, ℕ, suc, ◌+◌, ◌-◌, ◌≤◌, ◌<◌, arith, add-one}
use Rattle.searching.proofs.Prelude.{add-zero, length, take, drop, get_or, set, take-append-drop, drop_of_length-le, length-append, length-take}
use Rattle.searching.proofs.Prelude.{length-drop, length-set, take_all, take_at, take-suc, drop-cons, drop-drop, drop-set-lt, drop-append-le}
use Rattle.searching.proofs.Prelude.{take-suc-set, set_split, get_or-take, get_or-drop, length-take-le, LIST_WORDS, OVERFULL, insert_into, insert_below}
use Rattle.searching.proofs.Prelude.{insert_same, insert_above, Inserted, room, no_room}

-- ---- what is left to do at place i, where `carried` is still to be put among the members from i on
pub record Passing (list₀ : List ℕ) (count value : ℕ) (list : List ℕ) (carried i : ℕ) : Type 0 where
  pub inside : i ≤ count
  pub same_long : length list ≡ length list₀
  pub rest_same : drop i list ≡ drop i list₀
  pub rest_work : take i list ++ insert_into carried (drop i (take count list₀)) ≡ insert_into value (take count list₀)

pub passing_start : (list : List ℕ) (count value : ℕ) → Passing list count value list value 0
passing_start list count value = record { inside = omega arith; same_long = refl; rest_same = refl; rest_work = refl }

module _ (list₀ : List ℕ) (count value : ℕ) (fits : count ≤ length list₀) (list : List ℕ) (carried i : ℕ)
    (p : Passing list₀ count value list carried i) where
  -- the members from i on begin with the one at i
  here : i < count → drop i (take count list₀) ≡ get_or list i 0 ∷ drop (i + 1) (take count list₀)
  here l =
      let k : i < length (take count list₀) = simp length-take (omega arith) in
      let e : get_or (take count list₀) i 0 ≡ get_or list i 0 =
      get_or-take count list₀ i 0 l ∙ head_of (sym p.rest_same) in
      drop-cons (take count list₀) i 0 k
      ∙ ap₂ (λ (x : ℕ) (n : ℕ). x ∷ drop n (take count list₀)) e (sym (add-one i))
    where
      head_of : drop i list₀ ≡ drop i list → get_or list₀ i 0 ≡ get_or list i 0
      head_of e =
          sym (ap (λ (n : ℕ). get_or list₀ n 0) (add-zero i)) ∙ sym (get_or-drop i list₀ 0 0)
          ∙ ap (λ (l : List ℕ). get_or l 0 0) e
          ∙ get_or-drop i list 0 0 ∙ ap (λ (n : ℕ). get_or list n 0) (add-zero i)

  rest_next : (after : List ℕ) → drop (suc i) after ≡ drop (suc i) list → drop (i + 1) after ≡ drop (i + 1) list₀
  rest_next after e =
      ap (λ (n : ℕ). drop n after) (add-one i) ∙ e
      ∙ sym (drop-drop 1 i list ∙ ap (λ (n : ℕ). drop n list) (add-one i))
      ∙ ap (drop 1) p.rest_same ∙ drop-drop 1 i list₀

  -- the carried value is below the member: it takes the place, and the member is carried on
  pub pass_below : i < count → carried < get_or list i 0
      → Passing list₀ count value (set list i carried) (get_or list i 0) (i + 1)
  pass_below l b = record {
    inside = omega arith;
    same_long = length-set list i carried ∙ p.same_long;
    rest_same = rest_next (set list i carried) (drop-set-lt (suc i) list i carried (omega arith));
    rest_work = ap (λ (n : ℕ). take n (set list i carried) ++ insert_into (get_or list i 0) (drop (i + 1) (take count list₀))) (add-one i)
        ∙ ap (λ (xs : List ℕ). xs ++ insert_into (get_or list i 0) (drop (i + 1) (take count list₀)))
        (take-suc-set list i carried (omega (arith, p.same_long)))
        ∙ append_assoc (take i list) (carried ∷ []) (insert_into (get_or list i 0) (drop (i + 1) (take count list₀)))
        ∙ ap (λ (xs : List ℕ). take i list ++ xs) (sym (insert_below carried (get_or list i 0) (drop (i + 1) (take count list₀)) b))
        ∙ ap (λ (xs : List ℕ). take i list ++ insert_into carried xs) (sym (here l))
        ∙ p.rest_work;
  }

  -- the carried value is above the member: the member stays
  pub pass_above : i < count → ¬ (carried ≡ get_or list i 0) → get_or list i 0 ≤ carried
      → Passing list₀ count value list carried (i + 1)
  pass_above l n b = record {
    inside = omega arith;
    same_long = p.same_long;
    rest_same = rest_next list refl;
    rest_work = ap (λ (n : ℕ). take n list ++ insert_into carried (drop (i + 1) (take count list₀))) (add-one i)
        ∙ ap (λ (xs : List ℕ). xs ++ insert_into carried (drop (i + 1) (take count list₀))) (take-suc list i 0 (omega (arith, p.same_long)))
        ∙ append_assoc (take i list) (get_or list i 0 ∷ []) (insert_into carried (drop (i + 1) (take count list₀)))
        ∙ ap (λ (xs : List ℕ). take i list ++ xs) (sym (insert_above carried (get_or list i 0) (drop (i + 1) (take count list₀)) n b))
        ∙ ap (λ (xs : List ℕ). take i list ++ insert_into carried xs) (sym (here l))
        ∙ p.rest_work;
  }

  -- the value is there already
  pub pass_same : i < count → count ≤ LIST_WORDS → carried ≡ get_or list i 0 → Inserted list₀ count value list count
  pass_same l small e = room counted small whole
    where
      work : take i list ++ drop i (take count list₀) ≡ insert_into value (take count list₀)
      work =
          ap (λ (xs : List ℕ). take i list ++ xs)
          (here l ∙ sym (insert_same carried (get_or list i 0) (drop (i + 1) (take count list₀)) e) ∙ ap (insert_into carried) (sym (here l)))
          ∙ p.rest_work

      counted : count ≡ length (insert_into value (take count list₀))
      counted =
          let a : length (take i list) ≡ i = length-take-le i list (omega (arith, p.same_long)) in
          let b : length (drop i (take count list₀)) ≡ count - i = simp (length-drop, length-take) (omega arith) in
          let c : length (take i list ++ drop i (take count list₀)) ≡ length (take i list) + length (drop i (take count list₀)) =
          length-append (take i list) (drop i (take count list₀)) in
          let d : length (take i list ++ drop i (take count list₀)) ≡ length (insert_into value (take count list₀)) = ap length work in
          omega arith

      whole : list ≡ insert_into value (take count list₀) ++ drop count list₀
      whole =
          sym (take-append-drop i list)
          ∙ ap (λ (xs : List ℕ). take i list ++ xs) (p.rest_same ∙ split)
          ∙ sym (append_assoc (take i list) (drop i (take count list₀)) (drop count list₀))
          ∙ ap (λ (xs : List ℕ). xs ++ drop count list₀) work
        where
          split : drop i list₀ ≡ drop i (take count list₀) ++ drop count list₀
          split =
              ap (drop i) (sym (take-append-drop count list₀))
              ∙ drop-append-le i (take count list₀) (drop count list₀) (simp length-take (omega arith))

-- all members are passed: the carried value comes behind them
module _ (list₀ : List ℕ) (count value : ℕ) (long : length list₀ ≡ LIST_WORDS) (small : count ≤ LIST_WORDS) (list : List ℕ) (carried : ℕ)
    (p : Passing list₀ count value list carried count) where
  end_work : take count list ++ (carried ∷ []) ≡ insert_into value (take count list₀)
  unfolding insert_into
  end_work =
      ap (λ (xs : List ℕ). take count list ++ insert_into carried xs) (sym none) ∙ p.rest_work
    where
      none : drop count (take count list₀) ≡ []
      none =
          let l : length (take count list₀) ≤ count = simp length-take (omega arith) in
          drop_of_length-le (take count list₀) l

  end_long : length (insert_into value (take count list₀)) ≡ count + 1
  end_long =
      let a : length (take count list) ≡ count = length-take-le count list (omega (arith, p.same_long)) in
      let b : length (take count list ++ (carried ∷ [])) ≡ length (take count list) + 1 = length-append (take count list) (carried ∷ []) in
      let c : length (take count list ++ (carried ∷ [])) ≡ length (insert_into value (take count list₀)) = ap length end_work in
      omega arith

  pub pass_full : count ≡ LIST_WORDS → Inserted list₀ count value list OVERFULL
  pass_full e = no_room (end_long ∙ ap (λ (n : ℕ). n + 1) e) (sym kept)
    where
      kept : take LIST_WORDS (insert_into value (take count list₀)) ≡ list
      kept =
          let whole : take count list ≡ list = take_all count list (omega (arith, p.same_long)) in
          ap (take LIST_WORDS) (sym end_work ∙ ap (λ (xs : List ℕ). xs ++ (carried ∷ [])) whole)
          ∙ take_at list (carried ∷ []) LIST_WORDS (p.same_long ∙ long)

  pub pass_end : ¬ (count ≡ LIST_WORDS) → Inserted list₀ count value (set list count carried) (count + 1)
  pass_end n = room (sym end_long) (omega arith) whole
    where
      whole : set list count carried ≡ insert_into value (take count list₀) ++ drop (count + 1) list₀
      whole =
          set_split list count carried (omega (arith, p.same_long))
          ∙ sym (append_assoc (take count list) (carried ∷ []) (drop (suc count) list))
          ∙ ap₂ (λ (xs ys : List ℕ). xs ++ ys) end_work behind
        where
          behind : drop (suc count) list ≡ drop (count + 1) list₀
          behind =
              ap (λ (k : ℕ). drop k list) (sym (add-one count)) ∙ sym (drop-drop 1 count list)
              ∙ ap (drop 1) p.rest_same ∙ drop-drop 1 count list₀
