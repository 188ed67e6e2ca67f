-- The theory of rows and of bodies, put to systems: their law is fair, a new numbering takes the masses along, and impulses
-- depend on differences of positions alone, which a shift leaves as they are.
use Rattle.std.proofs.Common.{◌≡◌, ℕ, ◌*◌, ◌/◌, ◌^◌, ◌<◌, refl, ap, arith}
use Rattle.words.specs.Words.{Word, word, words, plus, less}
use Rattle.words.proofs.Wrapping.{words_lawful}
use Rattle.impulse.specs.Impulse.{with_sign_of, way, weighed}
use Rattle.motion.specs.Promises.{ShiftInvariant}
use Rattle.motion.specs.SystemLaws.{SystemsKeepTime, SystemsKeepMomentum, SystemsRenumber, SystemsShift}
use Rattle.motion.specs.Systems.{law_of, system_law}
use Rattle.motion.proofs.Fairness.{system_undone, system_fair}
use Rattle.motion.proofs.Rows.{time_decides}
use Rattle.motion.proofs.Undoing.{momentum_kept, renumbering_carries, shifting_carries}

pub systems_keep_time : SystemsKeepTime
systems_keep_time system = (system_undone system, time_decides (system_undone system))

pub systems_keep_momentum : SystemsKeepMomentum
systems_keep_momentum system =
    momentum_kept (words_lawful 64) (words_lawful 64) (system_law system) system.count (system_fair system)

pub systems_renumber : SystemsRenumber
systems_renumber softening mass n r = renumbering_carries (words_lawful 64) (words_lawful 64) r
    (record { impulse_same = λ x a i j. refl; motion_same = λ i a p. refl })

-- a shift of two words leaves their difference as it is
difference_shifted : (x y by : ℕ) → x < 2 ^ 64 → y < 2 ^ 64 → less 64 (plus 64 y by) (plus 64 x by) ≡ less 64 y x
difference_shifted x y by h k = omega arith

-- so it leaves the ways between bodies as they are, and with them the impulses
shift_invariant : (softening : ℕ) (mass : ℕ → ℕ) (by : ℕ → Word 64) → ShiftInvariant (words 64) by (law_of softening mass)
shift_invariant softening mass by x a i j =
    ap (λ d. word 64 (with_sign_of (d a) (weighed softening d a / 2 ^ 20 * (mass i * mass j)))) same
  where
    same : way (λ b. plus 64 (x i b).value (by b).value) (λ b. plus 64 (x j b).value (by b).value)
        ≡ way (λ b. (x i b).value) (λ b. (x j b).value)
    same = λ k b. difference_shifted (x i b).value (x j b).value (by b).value (x i b).small (x j b).small k

pub systems_shift : SystemsShift
systems_shift softening mass n by =
    shifting_carries (words_lawful 64) (words_lawful 64) by (law_of softening mass) (shift_invariant softening mass by) n
