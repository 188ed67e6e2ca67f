-- The bodies of a share, counted.
use Rattle.std.proofs.Common.{◌≡◌, ℕ, zero, suc, ◌+◌, ◌*◌, ◌<◌, ◌≤◌, Bool, true, false, cond, not, List, length, take, sym, refl, ap, ◌∙◌, inl, inr, not-suc-le-zero, add-one, arith}
use Rattle.std.specs.List.{count_by, filter}
use Rattle.std.proofs.lemmas.Bool.Decides.{eqb_tells, leb_tells}
use Rattle.std.proofs.lemmas.List.{get_or_past, take_all}
use Rattle.std.proofs.lemmas.List.Sums.{count_by_more_yes, count_by_more_no, length-filter}
use Rattle.motion.specs.Changes.{member}
use Rattle.shares.specs.Rows.{members}

pub members_none : (share : List Bool) → members share 0 ≡ 0
unfolding members
members_none share = refl

grows : (share : List Bool) (n : ℕ) → members share n ≤ members share (suc n)
unfolding members
grows share n = omega arith

-- a share has no more members than there are bodies
pub members_most : (share : List Bool) (n : ℕ) → members share n ≤ n
unfolding members
members_most share zero = omega arith
members_most share (suc n) = let below = members_most share n in one_most (member share n) (members share n) n below
  where
    one_most : (t : Bool) (m k : ℕ) → m ≤ k → cond t 1 0 + m ≤ suc k
    one_most true m k h = omega arith
    one_most false m k h = omega arith

-- one body more, that is in the share or not
pub members_in : (share : List Bool) (b : ℕ) → member share b ≡ true → members share (b + 1) ≡ members share b + 1
unfolding members
members_in share b e = rw (add-one b) (rw e (omega arith))

pub members_out : (share : List Bool) (b : ℕ) → member share b ≡ false → members share (b + 1) ≡ members share b
unfolding members
members_out share b e = rw add-one (rw e (omega arith))

-- a member below n is counted in n
pub members_within : (share : List Bool) (b n : ℕ) → member share b ≡ true → b < n → members share b + 1 ≤ members share n
members_within share b zero e h = absurd (not-suc-le-zero h)
members_within share b (suc n) e h = elim (eqb_tells b n) [
  | inl t ↦ let m = members_in share b e in let f : suc n ≡ b + 1 = omega arith in rw f (omega arith)
  | inr t ↦ let below = members_within share b n e (omega arith) in let g = grows share n in omega arith
]

-- there is room for the row of a member, and all of them are few
pub row_room : (share : List Bool) (b n at len : ℕ) → member share b ≡ true → b < n → n ≤ 64 → at ≡ 49 * members share b → len ≡ 49 * members share n →
    (at + 49 ≤ len) × (at + 49 ≤ 49 * 64)
row_room share b n at len e h few place long =
    let m = members_within share b n e h in
    let most = members_most share n in
    (omega arith, omega arith)

-- each number below the count of a share's members is that of the members below one of them
pub member_at : (share : List Bool) (n k : ℕ) → k < members share n → (b : ℕ) × (b < n) × (member share b ≡ true) × (members share b ≡ k)
member_at share zero k h = absurd (let m = members_none share in omega arith)
member_at share (suc n) k h = by (λ l. member_at share n k l) (member share n) refl
  where
    by : (k < members share n → (b : ℕ) × (b < n) × (member share b ≡ true) × (members share b ≡ k)) →
        (t : Bool) → member share n ≡ t → (b : ℕ) × (b < suc n) × (member share b ≡ true) × (members share b ≡ k)
    by below true e = elim (eqb_tells k (members share n)) [
      | inl t ↦ (n, omega arith, e, sym t.1)
      | inr t ↦ let m : members share (suc n) ≡ members share n + 1 = ap (members share) (sym (add-one n)) ∙ members_in share n e in
          let found = below (omega arith) in (found.0, omega arith, found.2, found.3)
    ]
    by below false e =
        let m : members share (suc n) ≡ members share n = ap (members share) (sym (add-one n)) ∙ members_out share n e in
        let found = below (omega arith) in (found.0, omega arith, found.2, found.3)

-- a share and the others have all bodies
pub members_both : (first second : List Bool) (n : ℕ) → ((b : ℕ) → b < n → member second b ≡ not (member first b)) → members first n + members second n ≡ n
members_both first second zero others = let a = members_none first in let b = members_none second in omega arith
members_both first second (suc n) others = by (members_both first second n (λ b h. others b (omega arith))) (member first n) refl
  where
    by : members first n + members second n ≡ n → (t : Bool) → member first n ≡ t → members first (suc n) + members second (suc n) ≡ suc n
    by below true e =
        let a : members first (suc n) ≡ members first n + 1 = ap (members first) (sym (add-one n)) ∙ members_in first n e in
        let b : members second (suc n) ≡ members second n = ap (members second) (sym (add-one n)) ∙ members_out second n (others n (omega arith) ∙ ap not e) in
        omega arith
    by below false e =
        let a : members first (suc n) ≡ members first n = ap (members first) (sym (add-one n)) ∙ members_out first n e in
        let b : members second (suc n) ≡ members second n + 1 = ap (members second) (sym (add-one n)) ∙ members_in second n (others n (omega arith) ∙ ap not e) in
        omega arith

counted : (share : List Bool) (n : ℕ) → count_by (λ has. has) (take n share) ≡ members share n
counted share zero = sym (members_none share)
counted share (suc n) = elim (leb_tells (length share) n) [
  | inl t ↦
      ap (count_by (λ has. has)) (take_all (suc n) share (omega arith) ∙ sym (take_all n share t.1)) ∙ counted share n
      ∙ sym (members_out share n (get_or_past share n false t.1)) ∙ ap (members share) (add-one n)
  | inr t ↦ ap (λ m. count_by (λ has. has) (take m share)) (sym (add-one n)) ∙ more (counted share n) (member share n) refl t.1 ∙ ap (members share) (add-one n)
]
  where
    more : count_by (λ has. has) (take n share) ≡ members share n → (c : Bool) → member share n ≡ c → n < length share →
        count_by (λ has. has) (take (n + 1) share) ≡ members share (n + 1)
    more below true e h = count_by_more_yes (λ has. has) share n false h e ∙ ap (λ k. k + 1) below ∙ sym (members_in share n e)
    more below false e h = count_by_more_no (λ has. has) share n false h e ∙ below ∙ sym (members_out share n e)

-- the members below n are those that the first n elements name
pub members_named : (share : List Bool) (n : ℕ) → length (filter (λ has. has) (take n share)) ≡ members share n
members_named share n = length-filter (λ has. has) (take n share) ∙ counted share n
