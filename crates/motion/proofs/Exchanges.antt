-- Two bodies that give each other an impulse: what the code adds to one and takes from the other is what the law gives to each.
use Rattle.std.proofs.Common.{◌≡◌, ℕ, zero, suc, ◌+◌, ◌*◌, ◌%◌, ◌^◌, ◌<◌, ◌≤◌, List, length, get_or, sym, refl, ap, ◌∙◌, inl, inr, mod-eq_of_lt, arith, rules, le-ltb, lt-ltb}
use mathlib.Core.Path.{transport}
use borrow.Rule.Slice.PartMut.{put_mid}
use Rattle.std.specs.List.{between}
use Rattle.std.proofs.lemmas.List.{places}
use Rattle.std.proofs.lemmas.Bool.Decides.{eqb_tells}
use Rattle.words.specs.Words.{plus}
use Rattle.distance.specs.Axes.{by_axis, along}
use Rattle.distance.proofs.Axis.{along_by_axis}
use Rattle.impulse.specs.Impulse.{impulse, PairOfImpulses}
use Rattle.motion.specs.Changes.{moved, opposite, Kicked, Exchanged, impulse_at}
use Rattle.motion.specs.Memory.{state_of, position_at}
use Rattle.motion.specs.Systems.{mass_of}
use Rattle.motion.proofs.BodyWords.{part_reads, own_part, other_part}
use Rattle.motion.proofs.Kicks.{impulse_word}
use Rattle.motion.specs.declared.system.System.{System}
use Rattle.motion.specs.declared.turn.Direction.{Direction}
use Rattle.motion.specs.declared.turn.Direction.TheVariants.{Ahead, Behind}

-- to move the other way by f is to move this way by what cancels f
opposite_moves : (direction : Direction) (m f g : ℕ) → f < 2 ^ 64 → g < 2 ^ 64 → plus 64 f g ≡ 0 → moved (opposite direction) m f ≡ moved direction m g
opposite_moves Ahead m f g h k e = omega arith
opposite_moves Behind m f g h k e = omega arith

-- what cancels f, as a word
cancels_word : (f g : ℕ) → plus 64 f g ≡ 0 → plus 64 f (g % 2 ^ 64) ≡ 0
cancels_word f g e = omega arith

-- the position of body i, as the law reads it from the state
module _ (n i : ℕ) (xs : List ℕ) (below : i < n) (words : (k : ℕ) → get_or xs k 0 < 2 ^ 64) where
  on_axis : (a : ℕ) → a < 3 → ((state_of n xs).position i a).value ≡ position_at xs i a
  on_axis a h = rw (lt-ltb a 3 h) (rw (lt-ltb i n below) (mod-eq_of_lt (words (6 * i + 2 * a))))

  pub position_read : (λ a. ((state_of n xs).position i a).value) ≡ along (by_axis (position_at xs i))
  position_read = λ k a. at a k
    where
      at : (a : ℕ) → ((state_of n xs).position i a).value ≡ along (by_axis (position_at xs i)) a
      at zero = on_axis 0 (omega arith)
      at (suc zero) = on_axis 1 (omega arith)
      at (suc (suc zero)) = on_axis 2 (omega arith)
      at (suc (suc (suc a))) = rw (le-ltb (suc (suc (suc a))) 3 (omega arith)) refl

-- the impulse by the law, as the code works it out
pub impulse_read : (system : System) (xs : List ℕ) (a i j : ℕ) → i < system.count → j < system.count → ((k : ℕ) → get_or xs k 0 < 2 ^ 64) →
    impulse_at system xs a i j
    ≡ impulse system.softening.value (mass_of system i) (mass_of system j) (along (by_axis (position_at xs i))) (along (by_axis (position_at xs j))) a % 2 ^ 64
impulse_read system xs a i j h k words = λ t.
    impulse system.softening.value (mass_of system i) (mass_of system j)
    (position_read system.count i xs h words t) (position_read system.count j xs k words t) a % 2 ^ 64

-- fs is what the code worked out for bodies of masses m and n at p and q, which are bodies i and j of the system
module _ (system : System) (i j : ℕ) (xs fs p q : List ℕ) (m n : ℕ) (first : i < system.count) (second : j < system.count)
    (words : (k : ℕ) → get_or xs k 0 < 2 ^ 64) (mass : m ≡ mass_of system i) (mass' : n ≡ mass_of system j)
    (here : p ≡ by_axis (position_at xs i)) (there : q ≡ by_axis (position_at xs j))
    (value : fs ≡ by_axis (impulse system.softening.value m n (along p) (along q)))
    (pair : (a : ℕ) → a < 3 → PairOfImpulses system.softening.value m n (along p) (along q) a) where
  law_pair : (a : ℕ) → a < 3 →
      PairOfImpulses system.softening.value (mass_of system i) (mass_of system j) (along (by_axis (position_at xs i))) (along (by_axis (position_at xs j))) a
  law_pair a h = transport (λ t. PairOfImpulses system.softening.value (mass t) (mass' t) (along (here t)) (along (there t)) a) (pair a h)

  law_value : (a : ℕ) → a < 3 →
      along fs a ≡ impulse system.softening.value (mass_of system i) (mass_of system j) (along (by_axis (position_at xs i))) (along (by_axis (position_at xs j))) a
  law_value a h =
      ap (λ l. along l a) value ∙ along_by_axis (impulse system.softening.value m n (along p) (along q)) a h
      ∙ (λ t. impulse system.softening.value (mass t) (mass' t) (along (here t)) (along (there t)) a)

  -- body i gets it as the law says
  pub first_gets : (a : ℕ) → a < 3 → along fs a ≡ impulse_at system xs a i j
  first_gets a h = law_value a h ∙ sym (mod-eq_of_lt (law_pair a h).a_word) ∙ sym (impulse_read system xs a i j first second words)

  -- and what body j gets by the law cancels it
  pub second_cancels : (a : ℕ) → a < 3 → plus 64 (along fs a) (impulse_at system xs a j i) ≡ 0
  second_cancels a h =
      (λ t. plus 64 (law_value a h t) (impulse_read system xs a j i second first words t))
      ∙ cancels_word _ _ (law_pair a h).cancel

-- xs are the words before; ys and zs what was written to the parts of body i and then of body j
module _ (system : System) (direction other : Direction) (i j : ℕ) (xs ys zs fs : List ℕ) (s t : ℕ) (first : i < system.count) (second : j < i)
    (long : length xs ≡ 6 * system.count) (six : length ys ≡ 6) (six' : length zs ≡ 6) (s-is : s ≡ 6) (t-is : t ≡ 6)
    (kick : Kicked direction (along fs) (between (6 * i) (6 * i + 6) xs) ys)
    (turned : other ≡ opposite direction)
    (kick' : Kicked other (along fs) (between (6 * j) (6 * j + 6) (put_mid (6 * i) s xs ys)) zs)
    (gives : (a : ℕ) → a < 3 → along fs a ≡ impulse_at system xs a i j)
    (cancels : (a : ℕ) → a < 3 → plus 64 (along fs a) (impulse_at system xs a j i) ≡ 0) where
  -- what is taken from body j is what the law gives it
  takes : (a : ℕ) → a < 3 → (m : ℕ) → moved other m (along fs a) ≡ moved direction m (impulse_at system xs a j i)
  takes a h m =
      let small : along fs a < 2 ^ 64 = rw (gives a h) (impulse_word system xs a i j) in
      (λ t. moved (turned t) m (along fs a)) ∙ opposite_moves direction m _ _ small (impulse_word system xs a j i) (cancels a h)

  middle : List ℕ
  middle = put_mid (6 * i) s xs ys

  room : 6 * i + 6 ≤ length xs
  room = omega arith

  room' : 6 * j + 6 ≤ length middle
  unfolding middle
  room' = let e : length (put_mid (6 * i) s xs ys) ≡ length xs = search (rules, places) in omega arith

  apart : j ≡ i → ⊥
  apart e = omega arith

  -- where each body's words come from
  second_part : (k : ℕ) → k < 6 → get_or (put_mid (6 * j) t middle zs) (6 * j + k) 0 ≡ get_or zs k 0
  second_part = own_part middle j room' zs six' t t-is

  other_parts : (b : ℕ) → (b ≡ j → ⊥) → (k : ℕ) → k < 6 → get_or (put_mid (6 * j) t middle zs) (6 * b + k) 0 ≡ get_or middle (6 * b + k) 0
  other_parts = other_part middle j room' zs six' t t-is

  first_part : (k : ℕ) → k < 6 → get_or middle (6 * i + k) 0 ≡ get_or ys k 0
  unfolding middle
  first_part = own_part xs i room ys six s s-is

  old_parts : (b : ℕ) → (b ≡ i → ⊥) → (k : ℕ) → k < 6 → get_or middle (6 * b + k) 0 ≡ get_or xs (6 * b + k) 0
  unfolding middle
  old_parts = other_part xs i room ys six s s-is

  -- body j's part read what j had before
  second_was : (k : ℕ) → k < 6 → get_or (between (6 * j) (6 * j + 6) middle) k 0 ≡ get_or xs (6 * j + k) 0
  second_was k h = part_reads middle j room' k h ∙ old_parts j apart k h

  position_kept : (b a : ℕ) → a < 3 → position_at (put_mid (6 * j) t middle zs) b a ≡ position_at xs b a
  unfolding middle
  position_kept b a h =
      let k : 2 * a < 6 = omega arith in
      elim (eqb_tells b j) [
        | inl e ↦ rw e.1 (second_part (2 * a) k ∙ kick'.positions a h ∙ second_was (2 * a) k)
        | inr e ↦ other_parts b e.1 (2 * a) k ∙ elim (eqb_tells b i) [
          | inl f ↦ rw f.1 (first_part (2 * a) k ∙ kick.positions a h ∙ part_reads xs i room (2 * a) k)
          | inr f ↦ old_parts b f.1 (2 * a) k
        ]
      ]

  pub exchanged : Exchanged system direction i j xs (put_mid (6 * j) t (put_mid (6 * i) s xs ys) zs)
  unfolding middle
  exchanged = record {
    positions = position_kept;
    first = λ a h.
        let k : 2 * a + 1 < 6 = omega arith in
        other_parts i (λ e. apart (sym e)) (2 * a + 1) k ∙ first_part (2 * a + 1) k ∙ kick.momenta a h
        ∙ (λ l. moved direction (part_reads xs i room (2 * a + 1) k l) (gives a h l));
    second = λ a h.
        let k : 2 * a + 1 < 6 = omega arith in
        second_part (2 * a + 1) k ∙ kick'.momenta a h
        ∙ ap (λ m. moved other m (along fs a)) (second_was (2 * a + 1) k) ∙ takes a h _;
    others = λ b ne ne' a h.
        let k : 2 * a + 1 < 6 = omega arith in
        other_parts b ne' (2 * a + 1) k ∙ old_parts b ne (2 * a + 1) k;
  }
