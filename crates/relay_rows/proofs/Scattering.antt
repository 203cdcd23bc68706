-- Words that stand apart, written one by one.
use Rattle.relay_rows.proofs.Prelude.{◌≡◌, refl, sym, ap, ◌∙◌, subst, List, ℕ, ◌+◌, ◌-◌, ◌*◌, ◌/◌, ◌%◌, ◌≤◌, ◌<◌, arith, mul-lt-mul_of_pos_left, dec_lt}
use Rattle.relay_rows.proofs.Prelude.{ℕ_discrete, length, get_or, set, length-set, get_or-set_same, get_or-set_other, ATOMS, AREA_WORDS, ROW_WORDS, Writable}
use Rattle.relay_rows.proofs.Prelude.{Scattered, FilledColumns}

-- the first k of 64 words are written
pub record Scattering (f : ℕ → ℕ) (at stride : ℕ) (before after : List ℕ) (k : ℕ) : Type 0 where
  pub reached : k ≤ ATOMS
  pub room : Writable before at stride
  pub so_far : Scattered f at stride before after k

pub scattering_start : (f : ℕ → ℕ) {at stride : ℕ} {before : List ℕ} → Writable before at stride → Scattering f at stride before before 0
scattering_start f w =
    record { reached = omega arith; room = w; so_far = record { long = refl; each = λ k l. absurd (omega arith); others = λ v h. refl } }

pub scattering_room : {f : ℕ → ℕ} {at stride k : ℕ} {before after : List ℕ} → Scattering f at stride before after k → k < ATOMS
    → at + stride * k < length after
scattering_room {k = k} h l = omega (arith, h.so_far.long, h.room.there k l)

pub scattering_more : {f : ℕ → ℕ} {at stride k v : ℕ} {before after : List ℕ} → Scattering f at stride before after k → k < ATOMS → v ≡ f k
    → Scattering f at stride before (set after (at + stride * k) v) (k + 1)
scattering_more {f} {at} {stride} {k} {v} {before} {after} h l e =
    record {
      reached = omega arith;
      room = h.room;
      so_far = record {
        long = length-set after (at + stride * k) v ∙ h.so_far.long;
        each = λ j m. here j m (ℕ_discrete j k);
        others = λ w d.
            get_or-set_other after (at + stride * k) w v 0 (d k (omega arith)) ∙ h.so_far.others w (λ j m. d j (omega arith));
      };
    }
  where
    here : (j : ℕ) → j < k + 1 → Dec (j ≡ k) → get_or (set after (at + stride * k) v) (at + stride * j) 0 ≡ f j
    here j m (yes q) =
        ap (λ (i : ℕ). get_or (set after (at + stride * k) v) (at + stride * i) 0) q
        ∙ get_or-set_same after (at + stride * k) v 0 (scattering_room h l) ∙ e ∙ ap f (sym q)
    here j m (no q) =
        let less : stride * j < stride * k = mul-lt-mul_of_pos_left (omega arith) h.room.apart in
        get_or-set_other after (at + stride * k) (at + stride * j) v 0 (λ p. omega arith) ∙ h.so_far.each j (omega arith)

pub scattering_end : {f : ℕ → ℕ} {at stride k : ℕ} {before after : List ℕ} → Scattering f at stride before after k → ATOMS ≤ k
    → Scattered f at stride before after ATOMS
scattering_end {f} {at} {stride} {k} {before} {after} h l =
    let r = h.reached in
    subst (Scattered f at stride before after) (omega arith) h.so_far

pub scattered_same : {f g : ℕ → ℕ} {at stride n : ℕ} {before after : List ℕ} → ((k : ℕ) → k < n → f k ≡ g k) → Scattered f at stride before after n
    → Scattered g at stride before after n
scattered_same same s = record { long = s.long; each = λ k l. s.each k l ∙ same k l; others = s.others }

-- ---- the parts of an area

-- the words below 256 that Done tells are those of f, and the others are as before
pub record Parts (f : ℕ → ℕ) (Done : ℕ → Type 0) (before after : List ℕ) : Type 0 where
  pub long : length after ≡ length before
  pub done : (w : ℕ) → w < AREA_WORDS → Done w → get_or after w 0 ≡ f w
  pub rest : (w : ℕ) → ((w < AREA_WORDS) → ¬ Done w) → get_or after w 0 ≡ get_or before w 0

-- word after word of all rows: the first q of each
pub record RowParts (f : ℕ → ℕ) (before after : List ℕ) (q : ℕ) : Type 0 where
  pub reached : q ≤ ROW_WORDS
  pub room : AREA_WORDS ≤ length before
  pub parts : Parts f (λ w. w % ROW_WORDS < q) before after

pub row_parts_start : (f : ℕ → ℕ) {before : List ℕ} → AREA_WORDS ≤ length before → RowParts f before before 0
row_parts_start f l =
    record { reached = omega arith; room = l; parts = record { long = refl; done = λ w k d. absurd (omega arith); rest = λ w d. refl } }

pub row_parts_more : {f : ℕ → ℕ} {before mid after : List ℕ} {q : ℕ} → RowParts f before mid q → q < ROW_WORDS
    → Scattered (λ i. f (q + ROW_WORDS * i)) q ROW_WORDS mid after ATOMS → RowParts f before after (q + 1)
row_parts_more {f} {before} {mid} {after} {q} h l s =
    record {
      reached = omega arith;
      room = h.room;
      parts = record {
        long = s.long ∙ h.parts.long;
        done = λ w k d. here w k d (ℕ_discrete (w % ROW_WORDS) q);
        rest = λ w d. s.others w (λ i m e. d (omega arith) (omega arith)) ∙ h.parts.rest w (λ k e. d k (omega arith));
      };
    }
  where
    here : (w : ℕ) → w < AREA_WORDS → w % ROW_WORDS < q + 1 → Dec (w % ROW_WORDS ≡ q) → get_or after w 0 ≡ f w
    here w k d (yes e) =
        let p : w ≡ q + 4 * (w / 4) = omega arith in
        ap (λ (x : ℕ). get_or after x 0) p ∙ s.each (w / 4) (omega arith) ∙ ap f (sym p)
    here w k d (no e) = s.others w (λ i m p. omega arith) ∙ h.parts.done w k (omega arith)

pub row_parts_end : {f : ℕ → ℕ} {before after : List ℕ} {q : ℕ} → RowParts f before after q → ROW_WORDS ≤ q → FilledColumns f before after AREA_WORDS
row_parts_end h l =
    record {
      long = h.parts.long;
      filled = λ w k. h.parts.done w k (omega arith);
      untouched = λ w k. h.parts.rest w (λ m. absurd (omega arith));
    }

-- part after part of the list: the first 64 * q words
pub record ListParts (f : ℕ → ℕ) (before after : List ℕ) (q : ℕ) : Type 0 where
  pub reached : q ≤ ROW_WORDS
  pub room : AREA_WORDS ≤ length before
  pub parts : FilledColumns f before after (q * ATOMS)

pub list_parts_start : (f : ℕ → ℕ) {before : List ℕ} → AREA_WORDS ≤ length before → ListParts f before before 0
list_parts_start f l =
    record { reached = omega arith; room = l; parts = record { long = refl; filled = λ w k. absurd (omega arith); untouched = λ w k. refl } }

pub list_parts_more : {f : ℕ → ℕ} {before mid after : List ℕ} {q : ℕ} → ListParts f before mid q → q < ROW_WORDS
    → Scattered (λ j. f (q * ATOMS + j)) (q * ATOMS) 1 mid after ATOMS → ListParts f before after (q + 1)
list_parts_more {f} {before} {mid} {after} {q} h l s =
    record {
      reached = omega arith;
      room = h.room;
      parts = record {
        long = s.long ∙ h.parts.long;
        filled = λ w k. here w k (dec_lt w (q * ATOMS));
        untouched = λ w k. s.others w (λ i m e. omega arith) ∙ h.parts.untouched w (omega arith);
      };
    }
  where
    here : (w : ℕ) → w < (q + 1) * ATOMS → Dec (w < q * ATOMS) → get_or after w 0 ≡ f w
    here w k (yes m) = s.others w (λ i n e. omega arith) ∙ h.parts.filled w m
    here w k (no m) =
        let p : w ≡ q * 64 + 1 * (w - q * 64) = omega arith in
        let r : q * 64 + (w - q * 64) ≡ w = omega arith in
        ap (λ (x : ℕ). get_or after x 0) p ∙ s.each (w - q * 64) (omega arith) ∙ ap f r

pub list_parts_end : {f : ℕ → ℕ} {before after : List ℕ} {q : ℕ} → ListParts f before after q → ROW_WORDS ≤ q → FilledColumns f before after AREA_WORDS
list_parts_end {f} {before} {after} {q} h l =
    let r = h.reached in
    subst (FilledColumns f before after) (omega arith) h.parts
