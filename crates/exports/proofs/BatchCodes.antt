-- What code, count and words tell a host that asks for several positions, from what `next_positions` promises.
use Rattle.exports.proofs.Prelude.{refl, List, ℕ, IsByte, All, reading_judged, Option, Result, Reply}
use Rattle.stepping.specs.Batch.{Stepped}
use Rattle.plan.specs.declared.fault.Fault.{Fault}
use Rattle.exports.specs.Batches.{batch_code, count_in, BatchHanded}
use Rattle.exports.proofs.HostReplies.{replied}

pub batch_handed : (bytes : List ℕ) (from : Option ℕ) {found found' count count' : List ℕ} {r : ℕ} {said : Result ℕ Fault} → All IsByte bytes
    → Stepped bytes from found found' said → Reply batch_code count_in said count count' r → BatchHanded bytes from found found' count count' r
batch_handed bytes from small s t = record {
  replied = replied bytes (λ _. refl) (λ _. refl) small s.answered t;
  found_are = s.words_are;
  untouched = λ n k st. let x = ((reading_judged bytes small).refused n k).1 st in s.untouched x.fault x.is;
  meaning = s.answered.meaning;
}
