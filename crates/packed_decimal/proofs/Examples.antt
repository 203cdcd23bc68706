-- Readings at the edges, computed from the definitions: which byte and which digit is the high one, the carry, the exception, the spots, and
-- the lowest place.
use Rattle.packed_decimal.proofs.Prelude.{◌≡◌, refl, [], ◌∷◌, lowest, digits, value_of, is_decimal, is_reading, says, unless_bad, number_of, reading_of}
use Rattle.packed_decimal.proofs.Prelude.{added_of, compared_of, bad_at, largest_of, largest_in, Some, None, Ok, Err, BadReading, LargeNumber}
use Rattle.packed_decimal.proofs.Prelude.{Less, Equal, Greater}

-- a number and back, "not measured stays so"
pub conversions : (number_of 0x1234 ≡ Ok (Some 1234))
    × (number_of 0xFFFF ≡ Ok None)
    × (number_of 0xFFF9 ≡ Err (BadReading 0))
    × (number_of 0x000A ≡ Err (BadReading 0))
    × (reading_of (Some 9876) ≡ Ok 0x9876)
    × (reading_of None ≡ Ok 0xFFFF)
    × (reading_of (Some 10000) ≡ Err LargeNumber)
unfolding number_of reading_of unless_bad lowest is_reading is_decimal says digits value_of
conversions = (refl, refl, refl, refl, refl, refl, refl)

-- "modulo 10,000 .., with a carry of 1 past 9999"
pub sums : (added_of 0x4999 0x5000 ≡ Ok (record { reading = 0x9999; carry = 0 }))
    × (added_of 0x4999 0x5001 ≡ Ok (record { reading = 0x0000; carry = 1 }))
    × (added_of 0x9999 0x9999 ≡ Ok (record { reading = 0x9998; carry = 1 }))
    × (added_of 0xFFFF 0x0001 ≡ Ok (record { reading = 0xFFFF; carry = 0 }))
    × (added_of 0xFFFF 0x00A0 ≡ Err (BadReading 1))
unfolding added_of unless_bad lowest is_reading is_decimal says digits value_of
sums = (refl, refl, refl, refl, refl)

-- "(below, equal, above)"
pub comparisons : (compared_of 0x0099 0x0100 ≡ Ok (Some Less))
    × (compared_of 0x0100 0x0100 ≡ Ok (Some Equal))
    × (compared_of 0x1000 0x0999 ≡ Ok (Some Greater))
    × (compared_of 0x0001 0xFFFF ≡ Ok None)
    × (compared_of 0xA000 0xA000 ≡ Err (BadReading 0))
unfolding compared_of unless_bad lowest is_reading is_decimal says digits value_of
comparisons = (refl, refl, refl, refl, refl)

-- "the largest measured reading with its lowest place"
pub runs : (largest_in (0xFF ∷ 0xFF ∷ 0x01 ∷ 0x20 ∷ 0x12 ∷ 0x00 ∷ 0x12 ∷ 0x00 ∷ []) ≡ Ok (Some (record { word = 0x1200; place = 2 })))
    × (largest_in (0xFF ∷ 0xFF ∷ []) ≡ Ok None)
    × (largest_in [] ≡ Ok None)
    × (largest_in (0x12 ∷ 0x00 ∷ 0x12 ∷ []) ≡ Err (BadReading 1))
    × (largest_in (0x12 ∷ 0x00 ∷ 0x0A ∷ 0x00 ∷ 0x12 ∷ []) ≡ Err (BadReading 1))
unfolding largest_in unless_bad lowest bad_at largest_of is_reading is_decimal says digits value_of
runs = (refl, refl, refl, refl, refl)
