-- An area that is filled word by word, from its first word on.
use Rattle.relay_rows.proofs.Prelude.{◌≡◌, refl, sym, ap, ◌∙◌, subst, List, ◌++◌, ℕ, zero, suc, ◌+◌, ◌-◌, ◌*◌, ◌≤◌, ◌<◌, arith, dec_lt, ℕ_discrete}
use Rattle.relay_rows.proofs.Prelude.{length, get_or, set, drop, length-set, length-append, length-drop, replicate, length-replicate, ext_get_or}
use Rattle.relay_rows.proofs.Prelude.{get_or-set_same, get_or-set_other, get_or-append-add, get_or-drop, ATOMS, ◌∩◌, FilledColumns, BlockRead}
use Rattle.atoms.specs.Lists.{tabulate}
use Rattle.atoms.proofs.Lists.{tabulate_long, tabulate_at}

-- nothing is written yet
pub filled_none : (f : ℕ → ℕ) (before : List ℕ) → FilledColumns f before before 0
filled_none f before = record { long = refl; filled = λ w l. absurd (omega arith); untouched = λ w l. refl }

-- one word more
pub filled_more : {f : ℕ → ℕ} {before after : List ℕ} {n v : ℕ} → FilledColumns f before after n → n < length before → v ≡ f n
    → FilledColumns f before (set after n v) (n + 1)
filled_more {f} {before} {after} {n} {v} h l e =
    record {
      long = length-set after n v ∙ h.long;
      filled = λ w k. here w k (ℕ_discrete w n);
      untouched = λ w k. get_or-set_other after n w v 0 (λ q. omega arith) ∙ h.untouched w (omega arith);
    }
  where
    here : (w : ℕ) → w < n + 1 → Dec (w ≡ n) → get_or (set after n v) w 0 ≡ f w
    here w k (yes q) =
        let long : length after ≡ length before = h.long in
        ap (λ (i : ℕ). get_or (set after n v) i 0) q ∙ get_or-set_same after n v 0 (omega arith) ∙ e ∙ ap f (sym q)
    here w k (no q) = get_or-set_other after n w v 0 q ∙ h.filled w (omega arith)

-- all words are written: the area as a list
pub filled_list : {f : ℕ → ℕ} {before after : List ℕ} {n : ℕ} → FilledColumns f before after n → n ≤ length before
    → after ≡ tabulate n f ++ drop n before
filled_list {f} {before} {after} {n} h l = ext_get_or 0 after (tabulate n f ++ drop n before) same_length (λ w k. here w k (dec_lt w n))
  where
    same_length : length after ≡ length (tabulate n f ++ drop n before)
    same_length = h.long ∙ omega (arith, length-append (tabulate n f) (drop n before), tabulate_long n f, length-drop n before)

    behind : (k : ℕ) → get_or (tabulate n f ++ drop n before) (n + k) 0 ≡ get_or before (n + k) 0
    behind k =
        ap (λ (m : ℕ). get_or (tabulate n f ++ drop n before) (m + k) 0) (sym (tabulate_long n f))
        ∙ get_or-append-add (tabulate n f) (drop n before) k 0 ∙ get_or-drop n before k 0

    here : (w : ℕ) → w < length after → Dec (w < n) → get_or after w 0 ≡ get_or (tabulate n f ++ drop n before) w 0
    here w k (yes q) = h.filled w q ∙ sym (tabulate_at n f (drop n before) w q)
    here w k (no q) =
        let e : w ≡ n + (w - n) = omega arith in
        h.untouched w (omega arith) ∙ ap (λ (i : ℕ). get_or before i 0) e ∙ sym (behind (w - n))
        ∙ ap (λ (i : ℕ). get_or (tabulate n f ++ drop n before) i 0) (sym e)

-- ---- the loop

-- the first `at` words of an area that has them all are written
pub record Filling (size : ℕ) (f : ℕ → ℕ) (before after : List ℕ) (at : ℕ) : Type 0 where
  pub reached : at ≤ size
  pub room : size ≤ length before
  pub so_far : FilledColumns f before after at

pub filling_start : {size : ℕ} (f : ℕ → ℕ) {before : List ℕ} → size ≤ length before → Filling size f before before 0
filling_start f {before} l = record { reached = omega arith; room = l; so_far = filled_none f before }

pub filling_room : {size at : ℕ} {f : ℕ → ℕ} {before after : List ℕ} → Filling size f before after at → at < size → at < length after
filling_room h l = omega (arith, h.room, h.so_far.long)

pub filling_more : {size at v : ℕ} {f : ℕ → ℕ} {before after : List ℕ} → Filling size f before after at → at < size → v ≡ f at
    → Filling size f before (set after at v) (at + 1)
filling_more h l e =
    record { reached = omega arith; room = h.room; so_far = filled_more h.so_far (omega (arith, h.room)) e }

pub filling_end : {size at : ℕ} {f : ℕ → ℕ} {before after : List ℕ} → Filling size f before after at → size ≤ at → FilledColumns f before after size
filling_end {f = f} {before} {after} h l =
    let r = h.reached in
    subst (FilledColumns f before after) (omega arith) h.so_far

-- ---- a block that is read

get_or-replicate : (n i : ℕ) → get_or (replicate {A = ℕ} n 0) i 0 ≡ 0
get_or-replicate zero i = refl
get_or-replicate (suc n) zero = refl
get_or-replicate (suc n) (suc i) = get_or-replicate n i

-- the first k words are read
pub record Reading (area : List ℕ) (at stride mask n : ℕ) (block : List ℕ) (k : ℕ) : Type 0 where
  pub reached : k ≤ n
  pub so_far : FilledColumns (λ j. get_or area (at + stride * j) 0 ∩ mask) (replicate ATOMS 0) block k

pub reading_start : (area : List ℕ) (at stride mask n : ℕ) → Reading area at stride mask n (replicate ATOMS 0) 0
reading_start area at stride mask n = record { reached = omega arith; so_far = filled_none _ (replicate ATOMS 0) }

pub reading_more : {area block : List ℕ} {at stride mask n k v : ℕ} → Reading area at stride mask n block k → k < n → n ≤ ATOMS
    → v ≡ get_or area (at + stride * k) 0 ∩ mask → Reading area at stride mask n (set block k v) (k + 1)
reading_more h l few e =
    record { reached = omega arith; so_far = filled_more h.so_far (omega (arith, length-replicate {A = ℕ} ATOMS 0)) e }

pub reading_end : {area block : List ℕ} {at stride mask n k : ℕ} → Reading area at stride mask n block k → n ≤ k → BlockRead area at stride mask n block
reading_end {k = k} h l =
    let r = h.reached in
    record {
      front = λ j m. h.so_far.filled j (omega arith);
      behind = λ j m. h.so_far.untouched j (omega arith) ∙ get_or-replicate ATOMS j;
    }
