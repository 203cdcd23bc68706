-- What code and word tell a host that goes from one position to the next, from what `next_position` promises.
use Rattle.exports.proofs.Prelude.{◌≡◌, refl, sym, ap, List, [], ◌∷◌, ◌++◌, ℕ, ◌+◌, arith, length, set, take-nil, IsByte, All, Option, Result, copied, Reply}
use Rattle.stepping.specs.Followed.{Followed, next_code}
use Rattle.plan.specs.declared.fault.Fault.{Fault}
use Rattle.exports.specs.Steps.{found_in, NextHanded}
use Rattle.exports.proofs.HostReplies.{replied}

-- ---- one word handed back as far as there is room

pub no_room : (M : ℕ) (found : List ℕ) → length found ≡ 0 → found ≡ copied (M ∷ []) found
unfolding copied
no_room M [] e = refl
no_room M (x ∷ xs) e = absurd (omega arith)

pub first_word : (M : ℕ) (found : List ℕ) → ¬ (length found ≡ 0) → set found 0 M ≡ copied (M ∷ []) found
unfolding copied
first_word M [] n = absurd (n refl)
first_word M (x ∷ xs) n = ap (λ (t : List ℕ). M ∷ (t ++ xs)) (sym (take-nil (length xs)))

-- ---- what is handed over

pub next_handed : (bytes : List ℕ) (from : Option ℕ) {found found' : List ℕ} {r : ℕ} {next : Result (Option ℕ) Fault} → All IsByte bytes
    → Followed bytes from next → Reply next_code found_in next found found' r → NextHanded bytes from found found' r
next_handed bytes from small f t = record { replied = replied bytes (λ _. refl) (λ _. refl) small f t; meaning = f.meaning }
