-- Bytes that agree as far as a valid system goes hold the same system.
use Rattle.std.proofs.Common.{◌≡◌, ℕ, suc, ◌+◌, ◌*◌, ◌<◌, ◌≤◌, cond, ltb, List, length, get_or, pos, None, sym, ap, ◌∙◌, subst, inl, inr, arith}
use Rattle.std.proofs.lemmas.Bool.Decides.{leb_tells}
use Rattle.words.specs.Bytes.{number_at}
use Rattle.words.proofs.InBytes.{number_moved}
use Rattle.motion.specs.Memory.{held}
use Rattle.motion.specs.Refusals.{good}
use Rattle.motion.specs.Systems.{step_by, back_by}
use Rattle.motion.proofs.Kicks.{held_within}
use Rattle.calls.specs.SystemBytes.{body_at, count_in, mass_in, position_in, momentum_in, rules_in, machine_in, system_told, Valid}
use Rattle.calls.proofs.Validity.{valid_taken}

module _ (xs ys : List ℕ) (valid : Valid xs) (same : (j : ℕ) → j < body_at (count_in xs) → get_or ys j 0 ≡ get_or xs j 0) where
  pub count_same : count_in ys ≡ count_in xs
  count_same = same 0 (omega arith)

  -- a number within the system
  number_same : (k at : ℕ) → at + k ≤ body_at (count_in xs) → number_at k ys at ≡ number_at k xs at
  number_same k at h = number_moved k ys xs at at (λ j l. same (at + j) (omega arith))

  mass_same : (b : ℕ) → mass_in ys b ≡ mass_in xs b
  mass_same b = elim (leb_tells (suc b) (count_in xs)) [
    | inl t ↦ ap (λ n. cond (ltb b n) (number_at 2 ys (body_at b)) 0) count_same
        ∙ ap (λ x. cond x (number_at 2 ys (body_at b)) 0) t.0 ∙ number_same 2 (body_at b) (let h = t.1 in omega arith)
        ∙ sym (ap (λ x. cond x (number_at 2 xs (body_at b)) 0) t.0)
    | inr t ↦ ap (λ n. cond (ltb b n) (number_at 2 ys (body_at b)) 0) count_same
        ∙ ap (λ x. cond x (number_at 2 ys (body_at b)) 0) t.0 ∙ sym (ap (λ x. cond x (number_at 2 xs (body_at b)) 0) t.0)
  ]

  pub rules_same : rules_in ys ≡ rules_in xs
  rules_same = λ i. record {
    count = count_same i;
    step = step_by (number_same 8 1 (omega arith) i) (λ b. mass_same b i) (count_same i);
    back = back_by (number_same 8 1 (omega arith) i) (λ b. mass_same b i) (count_same i);
  }

  pub machine_same : machine_in ys ≡ machine_in xs
  machine_same =
      (λ i. record { time = pos 0; state = record { position = held (count_same i) (position_in ys); momentum = held (count_same i) (momentum_in ys) }; kept = λ c. None })
      ∙ (λ i. record {
        time = pos 0;
        state = record {
          position = λ b a. held_within (count_in xs) (position_in ys) (position_in xs) (λ c d h k. number_same 8 (body_at c + (2 + 8 * d)) (omega arith)) b a i;
          momentum = λ b a. held_within (count_in xs) (momentum_in ys) (momentum_in xs) (λ c d h k. number_same 8 (body_at c + (26 + 8 * d)) (omega arith)) b a i;
        };
        kept = λ c. None;
      })

  pub taken_same : body_at (count_in xs) ≤ length ys → system_told ys ≡ good tt
  taken_same room = valid_taken ys (record {
    count = subst (λ n. (1 ≤ n) × (n ≤ 64)) (sym count_same) valid.count;
    softening = subst (λ n. (1048576 ≤ n) × (n ≤ 1099511627776)) (sym (number_same 8 1 (omega arith))) valid.softening;
    masses = λ b h.
        let below : b < count_in xs = subst (λ n. b < n) count_same h in
        subst (λ n. (1 ≤ n) × (n ≤ 1023)) (sym (number_same 2 (body_at b) (omega arith))) (valid.masses b below);
    room = subst (λ n. body_at n ≤ length ys) (sym count_same) room;
  })
