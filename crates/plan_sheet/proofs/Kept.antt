-- The sheet of a kept part: the buffer has room for every sheet, and what follows the part changes nothing.
use Rattle.plan_sheet.proofs.Prelude.{◌≡◌, sym, ap, ◌∙◌, subst, List, ◌++◌, ℕ, zero, suc, ◌-◌, ◌≤◌, min, dec_le, arith, le-leb, length, take, drop}
use Rattle.plan_sheet.proofs.Prelude.{replicate, length-replicate, length-append, take_at, drop_at, take_all, TABLE_WORDS, SHEET_BYTES, KEPT_BYTES}
use Rattle.plan_sheet.proofs.Prelude.{SheetSays, Printed, written_bytes, plan_sheet, SheetKept}
use Rattle.sheet.specs.LentSheet.{bytes_written as written, filled}
use Rattle.std.specs.Prelude.{Result}
use Rattle.sheet.specs.declared.TooShort.{TooShort}
use Rattle.plan_sheet.specs.declared.Sheet.{Sheet}
use Rattle.plan_sheet.proofs.SheetPrefix.{first_4096_decide}
use Rattle.plan_sheet.proofs.Said.{sheet_says}

-- the part of the area that the function takes is what was read
kept_part : (area : List ℕ) (read count : ℕ) → length area ≡ KEPT_BYTES → count ≡ min read KEPT_BYTES
    → take (count - 0) (drop 0 area) ≡ take read area
kept_part area read count l e = go (dec_le read KEPT_BYTES)
  where
    go : Dec (read ≤ KEPT_BYTES) → take (count - 0) (drop 0 area) ≡ take read area
    go (yes h) = let same : count - 0 ≡ read = omega arith in ap (λ (n : ℕ). take n area) same
    go (no h) = take_all (count - 0) area (omega arith) ∙ sym (take_all read area (omega arith))

drop_zeros : (n k : ℕ) → drop k (replicate {A = ℕ} n 0) ≡ replicate {A = ℕ} (n - k) 0
drop_zeros n zero = let e : n ≡ n - 0 = omega arith in ap (λ (m : ℕ). replicate {A = ℕ} m 0) e
drop_zeros zero (suc k) = let e : 0 ≡ 0 - suc k = omega arith in ap (λ (m : ℕ). replicate {A = ℕ} m 0) e
drop_zeros (suc n) (suc k) = let e : n - k ≡ suc n - suc k = omega arith in drop_zeros n k ∙ ap (λ (m : ℕ). replicate {A = ℕ} m 0) e

-- a sheet that fits into a buffer of zeros
module _ (bytes : List ℕ) (size : ℕ) (fits : length bytes ≤ size) where
  room : length bytes ≤ length (replicate {A = ℕ} size 0)
  room = omega (arith, length-replicate {A = ℕ} size 0)

  written_long : written_bytes (written bytes (replicate {A = ℕ} size 0)) ≡ length bytes
  unfolding written
  written_long = rw (le-leb (length bytes) (length (replicate {A = ℕ} size 0)) room, written)

  filled_front : filled bytes (replicate {A = ℕ} size 0) ≡ bytes ++ replicate {A = ℕ} (size - length bytes) 0
  unfolding filled
  filled_front =
      rw (le-leb (length bytes) (length (replicate {A = ℕ} size 0)) room, filled)
      (ap (λ (zs : List ℕ). bytes ++ zs) (drop_zeros size (length bytes)))

pub sheet_kept : (area : List ℕ) (read count : ℕ) (table' sheet' : List ℕ) (w : Result ℕ TooShort) (r : Sheet) → length area ≡ KEPT_BYTES
    → count ≡ min read KEPT_BYTES
    → Printed (take (count - 0) (drop 0 area)) (replicate {A = ℕ} TABLE_WORDS 0) table' (replicate {A = ℕ} SHEET_BYTES 0) sheet' w
    → r.bytes ≡ sheet' → r.length ≡ written_bytes w → SheetKept area read r
unfolding plan_sheet
sheet_kept area read count table' sheet' w r l e p b n = record {
  fits = omega (arith, size, ap length bytes_are, length-append sheet (replicate {A = ℕ} (SHEET_BYTES - length sheet) 0));
  is = front ∙ ap plan_sheet part;
  of_all = λ bytes k. front ∙ ap plan_sheet (part ∙ sym k) ∙ first_4096_decide bytes (replicate {A = ℕ} TABLE_WORDS 0);
  says = λ bytes small k.
      subst (SheetSays bytes (replicate {A = ℕ} TABLE_WORDS 0))
      (sym (front ∙ ap plan_sheet (part ∙ sym k) ∙ first_4096_decide bytes (replicate {A = ℕ} TABLE_WORDS 0)))
      (sheet_says bytes (replicate {A = ℕ} TABLE_WORDS 0) small);
  behind = ap (drop r.length) bytes_are ∙ drop_at sheet _ r.length (sym size) ∙ ap (λ (m : ℕ). replicate {A = ℕ} (SHEET_BYTES - m) 0) (sym size);
}
  where
    sheet : List ℕ
    sheet = plan_sheet (take (count - 0) (drop 0 area))

    at_most : length sheet ≤ SHEET_BYTES
    at_most = p.at_most

    part : take (count - 0) (drop 0 area) ≡ take read area
    part = kept_part area read count l e

    size : r.length ≡ length sheet
    size = n ∙ ap written_bytes p.written_is ∙ written_long sheet SHEET_BYTES at_most

    bytes_are : r.bytes ≡ sheet ++ replicate {A = ℕ} (SHEET_BYTES - length sheet) 0
    bytes_are = b ∙ p.sheet_is ∙ filled_front sheet SHEET_BYTES at_most

    front : take r.length r.bytes ≡ sheet
    front = ap (take r.length) bytes_are ∙ take_at sheet _ r.length (sym size)
