-- The law of a system is fair, since the impulses of a pair cancel; so the theory of rows and sums holds of every system.
use Rattle.std.proofs.Common.{◌≡◌, ℕ, ◌^◌, ◌≤◌, List, refl, ap, ◌∙◌, arith}
use Rattle.words.specs.Words.{word, words, plus}
use Rattle.words.proofs.Wrapping.{same_word, words_lawful}
use Rattle.impulse.proofs.Pairs.{pair_of_impulses, impulse_level}
use Rattle.motion.specs.Bodies.{Fair, total_momentum}
use Rattle.motion.specs.Outcomes.{Timed}
use Rattle.motion.specs.Systems.{WordsState, law_of, system_law, mass_of, step_of, back_of}
use Rattle.motion.specs.Travel.{Undone, travel}
use Rattle.motion.specs.declared.system.System.{System}
use Rattle.motion.specs.declared.turn.Turn.{Turn}
use Rattle.motion.proofs.Masses.{mass_light}
use Rattle.motion.proofs.Rows.{time_decides}
use Rattle.motion.proofs.Undoing.{steps_undone, momentum_kept}

words_cancel : (f g : ℕ) → plus 64 f g ≡ 0 → (words 64).plus (word 64 f) (word 64 g) ≡ (words 64).none
words_cancel f g e = same_word (omega arith)

pub fair_law : (softening : ℕ) (mass : ℕ → ℕ) → 2 ^ 20 ≤ softening → softening ≤ 2 ^ 40 → ((i : ℕ) → mass i ≤ 1023) → Fair (words 64) (law_of softening mass)
fair_law softening mass least most light = record {
  opposite = λ x a i j. words_cancel _ _
      (pair_of_impulses softening (mass i) (mass j) least most (light i) (light j) (λ b. (x i b).value) (λ b. (x j b).value)
      (λ b _. (x i b).small) (λ b _. (x j b).small) a (x i a).small (x j a).small).cancel;
  alone = λ x a i. ap (word 64) (impulse_level softening (mass i) (mass i) a (λ b. (x i b).value) (λ b. (x i b).value) refl (x i a).small);
}

module _ (system : System) where
  pub system_undone : Undone (step_of system) (back_of system)
  system_undone = steps_undone (words_lawful 64) (words_lawful 64) (system_law system) system.count

  pub system_fair : Fair (words 64) (system_law system)
  system_fair = fair_law _ (mass_of system) system.softening.least system.softening.most (mass_light system.masses system.count)

  pub timed : (turns : List Turn) (s t : WordsState) → t ≡ travel (step_of system) (back_of system) turns s → Timed system turns s t
  timed turns s t e = record {
    by_time = e ∙ (time_decides system_undone).by_time turns s;
    time_alone = λ others h. e ∙ (time_decides system_undone).time_alone turns others s h;
    momentum_kept = λ a. ap (total_momentum (words 64) system.count a) e
        ∙ (momentum_kept (words_lawful 64) (words_lawful 64) (system_law system) system.count system_fair a).by_row turns s;
  }
