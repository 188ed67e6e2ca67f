-- What stands in front of the part from `at` on is the call there.
use Rattle.std.proofs.Common.{◌≡◌, ℕ, ◌+◌, ◌<◌, ◌≤◌, List, [], length, get_or, drop, slice_range, Bor, Some, None, MatchOption, Option, unwrap_or, refl, ap, ◌∙◌, arith, rules}
use Rattle.std.proofs.lemmas.List.{take_rest}
use Rattle.words.specs.Bytes.{number_at, bytes_of}
use Rattle.calls.specs.declared.call.Call.TheVariants.{Forward, Back, GoTo, Read}
use Rattle.calls.proofs.Coded.{taken, cut_off}
use Rattle.calls.proofs.call.Call.decode.Goals as goal
use Rattle.calls.proofs.call.Call.decode.Goals.{then-this-lt3+in-4-1, else-this-lt3+then-this-lt5+in-4-1, else-this-lt3+else-this-lt5+in-4-1, then-this-lt5+in-5-1, else-this-lt5+in-5-1}

-- a part that is not empty is there
part_is : (bytes : List ℕ) (at : ℕ) (N : Type 0) (o : Option (Bor (List ℕ))) (d r : Bor (List ℕ)) →
    MatchOption o N (λ x. (at ≤ length bytes) × (length bytes ≤ length bytes) × (x.now ≡ slice_range bytes at (length bytes)) × (length x.now + at ≡ length bytes)) →
    r ≡ unwrap_or o d → d.now ≡ [] → 0 < length r.now → r.now ≡ drop at bytes
part_is bytes at N None d r facts e empty some = let none : length r.now ≡ 0 = ap (λ x. length x.now) e ∙ ap length empty in absurd (omega arith)
part_is bytes at N (Some x) d r facts e empty some = ap (λ b. b.now) e ∙ facts.2 ∙ take_rest bytes at

pub returns-in-1 : goal.returns-in-1
unfolding number_at bytes_of
returns-in-1 c =
    let rest = c.unwrap_or.result.now in
    let is : rest ≡ drop c.args.at c.args.bytes.now = part_is c.args.bytes.now c.args.at _ c.get.result _ c.unwrap_or.result c.get.ensures.lookup.0 c.unwrap_or.ensures refl (omega arith) in
    let kind : get_or rest 0 0 ≡ 1 = omega arith in
    let steps : number_at 4 rest 1 ≡ c.from_le_bytes.result = omega (arith, c.from_le_bytes.ensures) in
    let there = taken c.args.bytes.now rest c.args.number c.args.at is (omega arith) (λ j. (c.type_inv.bytes j).fits) (Forward c.from_le_bytes.result)
    (rw kind (ap (λ n. Some (Forward n)) steps)) (omega arith) in
    record { answer = there.answer; within = there.within; undone = there.undone }

pub returns-in-2 : goal.returns-in-2
unfolding number_at bytes_of
returns-in-2 c =
    let rest = c.unwrap_or.result.now in
    let is : rest ≡ drop c.args.at c.args.bytes.now = part_is c.args.bytes.now c.args.at _ c.get.result _ c.unwrap_or.result c.get.ensures.lookup.0 c.unwrap_or.ensures refl (omega arith) in
    let kind : get_or rest 0 0 ≡ 2 = omega arith in
    let steps : number_at 4 rest 1 ≡ c.from_le_bytes-in-2.result = omega (arith, c.from_le_bytes-in-2.ensures) in
    let there = taken c.args.bytes.now rest c.args.number c.args.at is (omega arith) (λ j. (c.type_inv.bytes j).fits) (Back c.from_le_bytes-in-2.result)
    (rw kind (ap (λ n. Some (Back n)) steps)) (omega arith) in
    record { answer = there.answer; within = there.within; undone = there.undone }

pub returns-in-4-clause-answer : goal.returns-in-4-clause-answer
returns-in-4-clause-answer c =
    let seen : (get_or c.unwrap_or.result.now 0 0 ≡ 4) × (2 ≤ length c.unwrap_or.result.now) = (search rules, search rules) in
    let rest = c.unwrap_or.result.now in
    let is : rest ≡ drop c.args.at c.args.bytes.now = part_is c.args.bytes.now c.args.at _ c.get.result _ c.unwrap_or.result c.get.ensures.lookup.0 c.unwrap_or.ensures refl (omega (arith, seen.1)) in
    let there = taken c.args.bytes.now rest c.args.number c.args.at is (omega (arith, seen.1)) (λ j. (c.type_inv.bytes j).fits) (GoTo (get_or rest 1 0)) (rw seen.0 refl) (omega (arith, seen.1)) in
    there.answer

pub returns-in-5-clause-answer : goal.returns-in-5-clause-answer
returns-in-5-clause-answer c =
    let seen : (get_or c.unwrap_or.result.now 0 0 ≡ 5) × (3 ≤ length c.unwrap_or.result.now) = (search rules, search rules) in
    let rest = c.unwrap_or.result.now in
    let is : rest ≡ drop c.args.at c.args.bytes.now = part_is c.args.bytes.now c.args.at _ c.get.result _ c.unwrap_or.result c.get.ensures.lookup.0 c.unwrap_or.ensures refl (omega (arith, seen.1)) in
    let there = taken c.args.bytes.now rest c.args.number c.args.at is (omega (arith, seen.1)) (λ j. (c.type_inv.bytes j).fits) (Read (get_or rest 1 0) (get_or rest 2 0)) (rw seen.0 refl) (omega (arith, seen.1)) in
    there.answer

pub returns-in-empty-2-clause-answer : goal.returns-in-empty-2-clause-answer
returns-in-empty-2-clause-answer c =
    let rest = c.unwrap_or.result.now in
    let is : rest ≡ drop c.args.at c.args.bytes.now = part_is c.args.bytes.now c.args.at _ c.get.result _ c.unwrap_or.result c.get.ensures.lookup.0 c.unwrap_or.ensures refl (omega arith) in
    cut_off c.args.bytes.now rest c.args.number c.args.at is (omega arith) (λ t. omega arith) (λ t. omega arith) (λ t. omega arith) (λ t. omega arith) (λ t. omega arith)
    (omega arith) (omega arith)

pub returns-in-empty-4-clause-answer : goal.returns-in-empty-4-clause-answer
returns-in-empty-4-clause-answer c =
    let rest = c.unwrap_or.result.now in
    let is : rest ≡ drop c.args.at c.args.bytes.now = part_is c.args.bytes.now c.args.at _ c.get.result _ c.unwrap_or.result c.get.ensures.lookup.0 c.unwrap_or.ensures refl (omega arith) in
    cut_off c.args.bytes.now rest c.args.number c.args.at is (omega arith) (λ t. omega arith) (λ t. omega arith) (λ t. omega arith) (λ t. omega arith) (λ t. omega arith)
    (omega arith) (omega arith)

pub returns-in-empty-5-clause-answer : goal.returns-in-empty-5-clause-answer
returns-in-empty-5-clause-answer c =
    let rest = c.unwrap_or.result.now in
    let is : rest ≡ drop c.args.at c.args.bytes.now = part_is c.args.bytes.now c.args.at _ c.get.result _ c.unwrap_or.result c.get.ensures.lookup.0 c.unwrap_or.ensures refl (omega arith) in
    cut_off c.args.bytes.now rest c.args.number c.args.at is (omega arith) (λ t. omega arith) (λ t. omega arith) (λ t. omega arith) (λ t. omega arith) (λ t. omega arith)
    (omega arith) (omega arith)
