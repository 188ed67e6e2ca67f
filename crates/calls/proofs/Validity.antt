-- A system is taken just if it is valid: each look front to back tests one part of it.
use Rattle.std.proofs.Common.{◌≡◌, ℕ, zero, suc, ◌+◌, ◌^◌, ◌<◌, ◌≤◌, Bool, true, false, cond, ◌&&◌, ltb, leb, List, length, sym, refl, ap, ◌∙◌, inl, inr, arith, le-ltb, le-leb}
use Rattle.std.proofs.lemmas.Bool.Decides.{leb_tells}
use Rattle.words.specs.Bytes.{number_at}
use Rattle.motion.specs.Memory.{state_length, work_length}
use Rattle.motion.specs.Refusals.{Told, good, refused}
use Rattle.calls.specs.Checkpoints.{checkpoints_length}
use Rattle.calls.specs.Machine.{provided}
use Rattle.calls.specs.Reports.{opening_told}
use Rattle.calls.specs.SystemBytes.{body_at, count_in, softening_in, enough, ranged, count_told, softening_told, body_told, bodies_told, system_told, room_told, Valid}

-- a refusal is not good
pub never : {X : Type 0} {P : Type 0} {x : X} {number place : ℕ} → refused number place ≡ good x → P
never {X} {P} {x} {number} {place} e = let z : ◌≡◌ {A = ℕ} 0 1 = cc in absurd (omega arith)

-- both of two looks were good
pub both : {X : Type 0} (first : Told (Unit {0})) (second : Told X) (x : X) → provided first second ≡ good x → (first ≡ good tt) × (second ≡ good x)
both (good tt) second x e = (refl, e)
both (refused number place) second x e = never e

enough_room : (bytes : List ℕ) (needed : ℕ) → enough bytes needed ≡ good tt → needed ≤ length bytes
enough_room bytes needed e = elim (leb_tells (suc (length bytes)) needed) [
  | inl t ↦ never (sym (ap (λ b. cond b (refused 1 (length bytes)) (good tt)) t.0) ∙ e)
  | inr t ↦ omega arith
]

room_enough : (bytes : List ℕ) (needed : ℕ) → needed ≤ length bytes → enough bytes needed ≡ good tt
room_enough bytes needed h = ap (λ b. cond b (refused 1 (length bytes)) (good tt)) (le-ltb (length bytes) needed h)

in_range : (least most number fault place : ℕ) → ranged least most number fault place ≡ good tt → (least ≤ number) × (number ≤ most)
in_range least most number fault place e = elim (leb_tells least number) [
  | inr t ↦ never (sym (ap (λ b. cond (b && leb number most) (good tt) (refused fault place)) t.0) ∙ e)
  | inl t ↦ elim (leb_tells number most) [
    | inr u ↦ never (sym (λ i. cond (t.0 i && u.0 i) (good tt) (refused fault place)) ∙ e)
    | inl u ↦ (t.1, u.1)
  ]
]

range_in : (least most number fault place : ℕ) → (least ≤ number) × (number ≤ most) → ranged least most number fault place ≡ good tt
range_in least most number fault place h =
    λ i. cond (le-leb least number h.0 i && le-leb number most h.1 i) (good tt) (refused fault place)

-- so many bodies from b on are valid
record Bodies (bytes : List ℕ) (left b : ℕ) : Type 0 where
  masses : (c : ℕ) → b ≤ c → c < b + left → (1 ≤ number_at 2 bytes (body_at c)) × (number_at 2 bytes (body_at c) ≤ 1023)
  room : body_at (b + left) ≤ length bytes

bodies_valid : (bytes : List ℕ) (left b : ℕ) → body_at b ≤ length bytes → bodies_told bytes left b ≡ good tt → Bodies bytes left b
unfolding bodies_told
bodies_valid bytes zero b here e = record { masses = λ c h k. absurd (omega arith); room = omega arith }
bodies_valid bytes (suc left) b here e =
    let parts = both (body_told bytes b) (bodies_told bytes left (b + 1)) tt e in
    let first = both (enough bytes (body_at b + 2)) (provided (ranged 1 1023 (number_at 2 bytes (body_at b)) 3 (body_at b)) (enough bytes (body_at (b + 1)))) tt parts.0 in
    let second = both (ranged 1 1023 (number_at 2 bytes (body_at b)) 3 (body_at b)) (enough bytes (body_at (b + 1))) tt first.1 in
    let mass = in_range 1 1023 (number_at 2 bytes (body_at b)) 3 (body_at b) second.0 in
    let more = bodies_valid bytes left (b + 1) (enough_room bytes (body_at (b + 1)) second.1) parts.1 in
    record {
      masses = λ c h k. elim (leb_tells (b + 1) c) [
        | inl t ↦ more.masses c t.1 (omega arith)
        | inr t ↦ let same : b ≡ c = omega arith in (rw same at mass.0, rw same at mass.1)
      ];
      room = let r = more.room in omega arith;
    }

valid_bodies : (bytes : List ℕ) (left b : ℕ) → Bodies bytes left b → bodies_told bytes left b ≡ good tt
unfolding bodies_told
valid_bodies bytes zero b valid = refl
valid_bodies bytes (suc left) b valid =
    let r = valid.room in
    let rest = valid_bodies bytes left (b + 1) (record { masses = λ c h k. valid.masses c (omega arith) (omega arith); room = omega arith }) in
    λ i. provided (provided (room_enough bytes (body_at b + 2) (omega arith) i)
    (provided (range_in 1 1023 (number_at 2 bytes (body_at b)) 3 (body_at b) (valid.masses b (omega arith) (omega arith)) i) (room_enough bytes (body_at (b + 1)) (omega arith) i))) (rest i)

pub taken_valid : (bytes : List ℕ) → system_told bytes ≡ good tt → Valid bytes
taken_valid bytes e =
    let first = both (count_told bytes) (provided (softening_told bytes) (bodies_told bytes (count_in bytes) 0)) tt e in
    let second = both (softening_told bytes) (bodies_told bytes (count_in bytes) 0) tt first.1 in
    let count = both (enough bytes 1) (ranged 1 64 (count_in bytes) 2 0) tt first.0 in
    let softening = both (enough bytes 9) (ranged (2 ^ 20) (2 ^ 40) (softening_in bytes) 3 1) tt second.0 in
    let bodies = bodies_valid bytes (count_in bytes) 0 (enough_room bytes 9 softening.0) second.1 in
    record {
      count = in_range 1 64 (count_in bytes) 2 0 count.1;
      softening = in_range (2 ^ 20) (2 ^ 40) (softening_in bytes) 3 1 softening.1;
      masses = λ b h. bodies.masses b (omega arith) (omega arith);
      room = let r = bodies.room in omega arith;
    }

pub valid_taken : (bytes : List ℕ) → Valid bytes → system_told bytes ≡ good tt
valid_taken bytes valid =
    let r = valid.room in
    let bodies = valid_bodies bytes (count_in bytes) 0 (record { masses = λ c h k. valid.masses c (omega arith); room = omega arith }) in
    λ i. provided (provided (room_enough bytes 1 (omega arith) i) (range_in 1 64 (count_in bytes) 2 0 valid.count i))
    (provided (provided (room_enough bytes 9 (omega arith) i) (range_in (2 ^ 20) (2 ^ 40) (softening_in bytes) 3 1 valid.softening i)) (bodies i))

-- no fault of an opening has the number of a log's
unfoldable pub BelowTen : Told (Unit {0}) → Type 0
BelowTen (good x) = Unit {0}
BelowTen (refused number place) = number < 10

below_provided : (a b : Told (Unit {0})) → BelowTen a → BelowTen b → BelowTen (provided a b)
unfolding BelowTen
below_provided (good x) b p q = q
below_provided (refused number place) b p q = p

below_cond : (t : Bool) (a b : Told (Unit {0})) → BelowTen a → BelowTen b → BelowTen (cond t a b)
below_cond true a b p q = p
below_cond false a b p q = q

below_enough : (bytes : List ℕ) (needed : ℕ) → BelowTen (enough bytes needed)
unfolding BelowTen
below_enough bytes needed = below_cond (ltb (length bytes) needed) (refused 1 (length bytes)) (good tt) (omega arith) tt

below_ranged : (least most number fault place : ℕ) → fault < 10 → BelowTen (ranged least most number fault place)
unfolding BelowTen
below_ranged least most number fault place h = below_cond (leb least number && leb number most) (good tt) (refused fault place) tt h

below_bodies : (bytes : List ℕ) (left b : ℕ) → BelowTen (bodies_told bytes left b)
unfolding BelowTen bodies_told
below_bodies bytes zero b = tt
below_bodies bytes (suc left) b =
    below_provided (body_told bytes b) (bodies_told bytes left (b + 1))
    (below_provided (enough bytes (body_at b + 2)) (provided (ranged 1 1023 (number_at 2 bytes (body_at b)) 3 (body_at b)) (enough bytes (body_at (b + 1)))) (below_enough bytes (body_at b + 2))
    (below_provided (ranged 1 1023 (number_at 2 bytes (body_at b)) 3 (body_at b)) (enough bytes (body_at (b + 1))) (below_ranged 1 1023 (number_at 2 bytes (body_at b)) 3 (body_at b) (omega arith)) (below_enough bytes (body_at (b + 1)))))
    (below_bodies bytes left (b + 1))

pub below_opening : (bytes : List ℕ) (state checkpoints work : ℕ) → BelowTen (opening_told bytes state checkpoints work)
unfolding BelowTen
below_opening bytes state checkpoints work =
    below_provided (system_told bytes) (room_told (count_in bytes) state checkpoints work)
    (below_provided (count_told bytes) (provided (softening_told bytes) (bodies_told bytes (count_in bytes) 0))
    (below_provided (enough bytes 1) (ranged 1 64 (count_in bytes) 2 0) (below_enough bytes 1) (below_ranged 1 64 (count_in bytes) 2 0 (omega arith)))
    (below_provided (softening_told bytes) (bodies_told bytes (count_in bytes) 0)
    (below_provided (enough bytes 9) (ranged (2 ^ 20) (2 ^ 40) (softening_in bytes) 3 1) (below_enough bytes 9) (below_ranged (2 ^ 20) (2 ^ 40) (softening_in bytes) 3 1 (omega arith)))
    (below_bodies bytes (count_in bytes) 0)))
    (below_cond (ltb state (state_length (count_in bytes))) (refused 8 0) _ (omega arith)
    (below_cond (ltb checkpoints (checkpoints_length (count_in bytes))) (refused 8 1) _ (omega arith)
    (below_cond (ltb work (work_length (count_in bytes))) (refused 8 2) (good tt) (omega arith) tt)))
