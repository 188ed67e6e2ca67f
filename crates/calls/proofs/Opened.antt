-- A system in bytes: what is told of it body by body, and that masses and words are those in the bytes.
use Rattle.std.proofs.Common.{◌≡◌, ℕ, suc, ◌+◌, ◌-◌, ◌*◌, ◌<◌, ◌≤◌, List, ◌++◌, map, length, get_or, drop, set, replicate, pos, None, sym, refl, ap, ◌∙◌, subst, inl, inr, arith}
use borrow.Rule.Slice.PartMut.{put_mid}
use Rattle.std.specs.List.{between}
use Rattle.std.proofs.lemmas.List.Edits.{get_or-between}
use Rattle.std.proofs.lemmas.List.{map-set, get_or-set_same, get_or-set_other, get_or-replicate, get_or_append_left, length-map, length-replicate, drop-drop}
use Rattle.std.proofs.lemmas.Slice.{drop-put_mid}
use Rattle.std.proofs.lemmas.Bool.Decides.{eqb_tells, leb_tells}
use Rattle.words.specs.Bytes.{number_at}
use Rattle.words.specs.Masses.{Mass}
use Rattle.words.proofs.InBytes.{number_moved}
use Rattle.motion.specs.Memory.{state_of, held, position_at, momentum_at, state_length}
use Rattle.motion.specs.Refusals.{good}
use Rattle.motion.specs.Systems.{step_by, back_by}
use Rattle.motion.specs.declared.system.System.{System}
use Rattle.motion.proofs.BodyWords.{own_part, other_part}
use Rattle.motion.proofs.Kicks.{held_within}
use Rattle.calls.specs.Checkpoints.{checkpoint_length, checkpoints_length, kept_in, machine_of}
use Rattle.calls.specs.Machine.{provided, rules_of}
use Rattle.calls.specs.Opening.{MassesRead, SystemRead, BodyWritten, BodiesWritten, Opened}
use Rattle.calls.specs.SystemBytes.{body_at, count_in, position_in, momentum_in, state_in, rules_in, body_told, bodies_told}
use Rattle.calls.specs.declared.player.Player.{Player}
use Rattle.calls.proofs.Kept.{room_for}

-- one body more
pub bodies_more : (bytes : List ℕ) (n b : ℕ) → b < n → bodies_told bytes (n - b) b ≡ provided (body_told bytes b) (bodies_told bytes (n - (b + 1)) (b + 1))
unfolding bodies_told
bodies_more bytes n b h = let e : n - b ≡ suc (n - (b + 1)) = omega arith in ap (λ k. bodies_told bytes k b) e

-- no body more
pub bodies_over : (bytes : List ℕ) (n b : ℕ) → n ≤ b → bodies_told bytes (n - b) b ≡ good tt
unfolding bodies_told
bodies_over bytes n b h = let e : n - b ≡ 0 = omega arith in ap (λ k. bodies_told bytes k b) e

-- one mass more
pub masses_more : (bytes : List ℕ) (b : ℕ) (masses : List Mass) (mass : Mass) → b < length masses → body_at (b + 1) ≤ length bytes →
    mass.value ≡ number_at 2 bytes (body_at b) → MassesRead bytes b masses → MassesRead bytes (b + 1) (set masses b mass)
masses_more bytes b masses mass there room value read = record {
  values = λ c h. elim (eqb_tells c b) [
    | inl e ↦
        let long : b < length (map (λ m. m.value) masses) = simp length-map there in
        rw e.1 (ap (λ l. get_or l b 0) (map-set (λ m. m.value) masses b mass) ∙ get_or-set_same (map (λ m. m.value) masses) b mass.value 0 long ∙ value)
    | inr e ↦ ap (λ l. get_or l c 0) (map-set (λ m. m.value) masses b mass) ∙ get_or-set_other (map (λ m. m.value) masses) b c mass.value 0 e.1 ∙ read.values c (omega arith)
  ];
  room = room;
}

-- body b is written to its part, by the bytes from `at` to `end`
module _ (bytes : List ℕ) (b at end s : ℕ) (before words ys : List ℕ) (at-is : at ≡ body_at b) (end_is : end ≡ at + 50) (s-is : s ≡ 6)
    (room : 6 * b + 6 ≤ length words) (six : length ys ≡ 6) where
  own : (k : ℕ) → k < 6 → get_or (put_mid (6 * b) s words ys) (6 * b + k) 0 ≡ get_or ys k 0
  own = own_part words b room ys six s s-is

  old : (c : ℕ) → (c ≡ b → ⊥) → (k : ℕ) → k < 6 → get_or (put_mid (6 * b) s words ys) (6 * c + k) 0 ≡ get_or words (6 * c + k) 0
  old = other_part words b room ys six s s-is

  read : (from : ℕ) → from + 8 ≤ 50 → number_at 8 (between at end bytes) from ≡ number_at 8 bytes (body_at b + from)
  read from h = number_moved 8 (between at end bytes) bytes from (body_at b + from)
      (λ i l. get_or-between bytes at end (from + i) 0 (omega arith) ∙ ap (λ j. get_or bytes j 0) (omega arith))

  pub bodies_one_more : BodiesWritten bytes b before words → BodyWritten (between at end bytes) ys → BodiesWritten bytes (b + 1) before (put_mid (6 * b) s words ys)
  bodies_one_more all one = record {
    positions = λ c h a k. elim (eqb_tells c b) [
      | inl t ↦ rw t.1 (own (2 * a) (omega arith) ∙ one.positions a k ∙ read (2 + 8 * a) (omega arith))
      | inr t ↦ old c t.1 (2 * a) (omega arith) ∙ all.positions c (omega arith) a k
    ];
    momenta = λ c h a k. elim (eqb_tells c b) [
      | inl t ↦ rw t.1 (own (2 * a + 1) (omega arith) ∙ one.momenta a k ∙ read (26 + 8 * a) (omega arith))
      | inr t ↦ old c t.1 (2 * a + 1) (omega arith) ∙ all.momenta c (omega arith) a k
    ];
    behind =
        drop-put_mid (6 * b) s words ys (6 * (b + 1)) (omega arith) (omega arith) (six ∙ sym s-is)
        ∙ ap (λ n. drop n words) six_more ∙ sym (drop-drop 6 (6 * b) words) ∙ ap (drop 6) all.behind ∙ drop-drop 6 (6 * b) before ∙ ap (λ n. drop n before) (sym six_more);
  }
    where
      six_more : 6 * (b + 1) ≡ 6 * b + 6
      six_more = omega arith

-- a player's system that was read moves by the rules in the bytes
pub rules_same : (bytes : List ℕ) (system : System) → SystemRead bytes system → rules_of system ≡ rules_in bytes
rules_same bytes system read = λ i. record {
  count = read.count i;
  step = step_by (read.softening i) (λ b. read.masses b i) (read.count i);
  back = back_by (read.softening i) (λ b. read.masses b i) (read.count i);
}

-- the words of all bodies hold the state in the bytes
pub state_same : (bytes : List ℕ) (n : ℕ) (before after : List ℕ) → n ≡ count_in bytes → BodiesWritten bytes n before after → state_of n after ≡ state_in bytes
state_same bytes n before after count written =
    (λ i. record {
      position = λ b a. held_within n (position_at after) (position_in bytes) (λ c d h k. written.positions c h d k) b a i;
      momentum = λ b a. held_within n (momentum_at after) (momentum_in bytes) (λ c d h k. written.momenta c h d k) b a i;
    })
    ∙ (λ i. record { position = held (count i) (position_in bytes); momentum = held (count i) (momentum_in bytes) })

-- where all words are 0, nothing is kept
pub nothing_kept : (n : ℕ) (rest : List ℕ) → kept_in n (replicate (checkpoints_length n) 0 ++ rest) ≡ (λ c. None)
nothing_kept n rest = λ i c. at c i
  where
    word : (c : ℕ) → c < 16 → get_or (replicate (checkpoints_length n) 0 ++ rest) (c * checkpoint_length n) 0 ≡ 0
    word c h =
        let room = room_for c (checkpoint_length n) (checkpoints_length n) h (omega arith) in
        let long : length (replicate {A = ℕ} (checkpoints_length n) 0) ≡ checkpoints_length n = length-replicate (checkpoints_length n) 0 in
        get_or_append_left (replicate (checkpoints_length n) 0) rest 0 (c * checkpoint_length n) (omega arith)
        ∙ get_or-replicate (checkpoints_length n) (c * checkpoint_length n) 0 0 (omega arith)

    at : (c : ℕ) → kept_in n (replicate (checkpoints_length n) 0 ++ rest) c ≡ None
    at c = elim (leb_tells (suc c) 16) [
      | inl t ↦ rw t.0 (rw (word c t.1) refl)
      | inr t ↦ rw t.0 refl
    ]

-- a player with the words of the state written and those of the checkpoints cleared has opened the bytes
pub opened : (bytes : List ℕ) (system : System) (player : Player) (n m : ℕ) (state state_after checkpoints checkpoints_after : List ℕ) →
    player ≡ record { system = system; time = pos 0 } → SystemRead bytes system → n ≡ system.count → BodiesWritten bytes n state state_after →
    m ≡ checkpoints_length n → checkpoints_after ≡ replicate m 0 ++ drop m checkpoints → Opened bytes player state state_after checkpoints checkpoints_after
opened bytes system player n m state state_after checkpoints checkpoints_after is read count written size cleared =
    let all = count ∙ read.count in
    let clear = cleared ∙ ap (λ k. replicate k 0 ++ drop k checkpoints) size in
    record {
      room = read.room;
      rules = ap (λ p. rules_of p.system) is ∙ rules_same bytes system read;
      machine = ap (λ p. machine_of p state_after checkpoints_after) is ∙ (λ i. record {
        time = pos 0;
        state = (ap (λ k. state_of k state_after) (sym count) ∙ state_same bytes n state state_after all written) i;
        kept = (ap (λ k. kept_in k checkpoints_after) (sym count) ∙ ap (kept_in n) clear ∙ nothing_kept n (drop (checkpoints_length n) checkpoints)) i;
      });
      state_behind = subst (λ k. drop (state_length k) state_after ≡ drop (state_length k) state) all written.behind;
      checkpoints_are = clear ∙ ap (λ k. replicate (checkpoints_length k) 0 ++ drop (checkpoints_length k) checkpoints) all;
    }
