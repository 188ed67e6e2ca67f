-- A step of Newton's method lands at or above the whole root, and falls where the guess was above it.
use Rattle.std.proofs.Common.{◌≡◌, ◌+◌, ◌/◌, inl, inr, arith}
use Rattle.std.proofs.lemmas.Bool.Decides.{leb_tells}
use Rattle.distance.proofs.Roots.{newton_beyond, newton_falls}
use Rattle.distance.proofs.newton.Goals as goal

pub returns : goal.returns
returns c =
    let q = c.args.square in
    let g = c.args.guess in
    let m = c.min.result in
    elim (leb_tells ((g + q / g) / 2) 0xffff_ffff) [
      | inl t ↦
          let e : m ≡ (g + q / g) / 2 = omega arith in
          record {
            beyond = rw e (newton_beyond q g c.requires.least);
            bound = omega arith;
            falls = λ h. rw e (newton_falls q g c.requires.least h);
          }
      | inr t ↦
          let e : m ≡ 0xffff_ffff = omega arith in
          record {
            beyond = rw e (omega arith);
            bound = omega arith;
            falls = λ h. let f = newton_falls q g c.requires.least h in omega arith;
          }
    ]
