-- ReadPlan on, command by command. `walk_keeps` is the one induction over what is left to read.
use Rattle.reading.proofs.Prelude.{◌≡◌, refl, ap, sym, ◌∙◌, subst, List, [], ◌∷◌, Bool, true, false, true≢false, ℕ, zero, suc, ◌+◌, ◌≤◌, ◌<◌, arith}
use Rattle.reading.proofs.Prelude.{length, drop, length-drop, ltb-false, Kind, end, operand_bytes, miscounted, command_at, Step, onward, ended, step_of}
use Rattle.reading.proofs.Prelude.{walk, accepted, refused, command_bytes, end_bytes, Plan, ReadPlan, Fault as Faulty}
use Rattle.reading.proofs.Commands.{Unstopped, Front, unstopped, stopped, front, goes_on_lem, adds, only_end, step_when_lem, Leads, leads_step}
use Rattle.plan.specs.declared.fault.Fault.{Fault}

-- operands that are read already are stepped over
walk_skip : (p : Plan) (at k : ℕ) (s : List ℕ) → walk p at k s ≡ walk p at 0 (drop k s)
unfolding walk
walk_skip p at zero s = refl
walk_skip p at (suc k) [] = refl
walk_skip p at (suc k) (b ∷ s) = walk_skip p at k s

abbrev reading_of : ReadPlan → Step → ReadPlan
reading_of otherwise (onward k q) = otherwise
reading_of otherwise (ended r) = r

module _ (p : Plan) (at : ℕ) where
  pub walk_on : (s : List ℕ) (k : Kind) (q : Plan) → step_of p (command_at p at s) ≡ onward k q
      → walk p at 0 s ≡ walk q (at + command_bytes k) 0 (drop (command_bytes k) s)
  unfolding walk command_at
  walk_on [] k q e = absurd (true≢false (sym (ap goes_on_lem e)))
  walk_on (b ∷ s) k q e = rw (e, walk) (walk_skip q (at + command_bytes k) (operand_bytes k) s)

  pub walk_ended : (s : List ℕ) (r : ReadPlan) → step_of p (command_at p at s) ≡ ended r → walk p at 0 s ≡ r
  unfolding walk command_at
  walk_ended [] r e = ap (reading_of r) e
  walk_ended (b ∷ s) r e = rw (e, walk)

-- END with the right sizes, and nothing behind it
end_counted : (p : Plan) (at : ℕ) (s : List ℕ) → Unstopped end p at s → miscounted p ≡ false
end_counted p at s u = u.right.0

end_alone : (p : Plan) (at : ℕ) (s : List ℕ) → Unstopped end p at s → s ≡ end_bytes
end_alone p at s u = u.bytes ∙ ap (λ (t : List ℕ). 0x00 ∷ t) (empty u.operands (ltb-false _ _ u.right.1.0))
  where
    empty : (l : List ℕ) → length l ≤ 0 → l ≡ []
    empty [] h = refl
    empty (x ∷ l) h = absurd (omega arith)

-- what each command keeps holds to the end: I of the record, the place and the bytes from there on; P of what reading gives
module _ (I : Plan → ℕ → List ℕ → Type 0) (P : ReadPlan → Type 0)
    (on : (p q : Plan) (at : ℕ) (s : List ℕ) (k : Kind) → I p at s → Leads k p at s q → I q (at + command_bytes k) (drop (command_bytes k) s))
    (well : (p : Plan) (at : ℕ) (s : List ℕ) → I p at s → s ≡ end_bytes → miscounted p ≡ false → P (accepted p))
    (ill : (p : Plan) (at : ℕ) (s : List ℕ) (f : Fault) → I p at s → command_at p at s ≡ Faulty f → P (refused f)) where
  module _ (n : ℕ) (rec : (q : Plan) (a : ℕ) (t : List ℕ) → length t < n → I q a t → P (walk q a 0 t)) (p : Plan) (at : ℕ) (s : List ℕ)
      (short : length s < suc n) (i : I p at s) where
    one_more : (k : Kind) (q : Plan) → Leads k p at s q → P (walk p at 0 s)
    one_more k q l =
        let whole : length s ≡ suc (length l.read.operands) = ap length l.read.bytes in
        let less : length (drop (command_bytes k) s) < n = omega (arith, length-drop (command_bytes k) s) in
        rw (walk_on p at s k q (leads_step p at s k q l)) (rec q (at + command_bytes k) (drop (command_bytes k) s) less (on p q at s k i l))

    one_step : Front p at s → P (walk p at 0 s)
    one_step (stopped f e) = rw (walk_ended p at s (refused f) (ap (step_of p) e)) (ill p at s f i e)
    one_step (unstopped k u) = go (adds k) refl
      where
        go : (b : Bool) → adds k ≡ b → P (walk p at 0 s)
        go true a = one_more k _ (record { read = u; more = a; is = refl })
        go false a =
            let last : Unstopped end p at s = subst (λ (j : Kind). Unstopped j p at s) (only_end k a) u in
            rw (walk_ended p at s (accepted p) (ap (step_of p) u.command ∙ step_when_lem p k u.operands false a))
            (well p at s i (end_alone p at s last) (end_counted p at s last))

  keeps_within : (n : ℕ) (p : Plan) (at : ℕ) (s : List ℕ) → length s < n → I p at s → P (walk p at 0 s)
  keeps_within zero p at s l i = absurd (omega arith)
  keeps_within (suc n) p at s l i = one_step n (keeps_within n) p at s l i (front p at s)

  pub walk_keeps : (p : Plan) (at : ℕ) (s : List ℕ) → I p at s → P (walk p at 0 s)
  walk_keeps p at s i = keeps_within (suc (length s)) p at s (omega arith) i
