-- The rows of two shares, one behind the other: each body is in one of the two, so each has one row.
use Rattle.std.proofs.Common.{◌≡◌, ℕ, ◌+◌, ◌-◌, ◌*◌, ◌<◌, ◌≤◌, Bool, true, false, cond, not, List, ◌++◌, length, get_or, take, drop, sym, refl, ap, ◌∙◌, subst, inl, inr, append-nil, arith, length-take-le, get_or-take, rules}
use borrow.Rule.Slice.PartMut.{put_mid, post_of}
use Rattle.std.proofs.lemmas.List.{places, drop_at, drop_all, drop-drop, take_rest}
use Rattle.std.proofs.lemmas.Bool.{not-true}
use Rattle.std.proofs.lemmas.Bool.Decides.{leb_tells}
use Rattle.motion.specs.Changes.{member}
use Rattle.motion.specs.Systems.{WordsState}
use Rattle.shares.specs.Rows.{word_at, row_body, rows_in, RowOf, Sent, members}
use Rattle.shares.specs.Taking.{EachOnce}
use Rattle.shares.specs.Together.{RowsOf}
use Rattle.shares.proofs.Members.{members_within, member_at, members_both}
use Rattle.words.proofs.Placed.{placed_own, placed_other}
use Rattle.words.proofs.InBytes.{number_moved, number_stays}

-- of each body the words of the computer that has it
abbrev pub mixed : List Bool → WordsState → WordsState → WordsState
mixed first s t = record {
  position = λ b a. cond (member first b) (s.position b a) (t.position b a);
  momentum = λ b a. cond (member first b) (s.momentum b a) (t.momentum b a);
}

module _ (n : ℕ) (first second : List Bool) (s t : WordsState) (rows one two : List ℕ)
    (others : (b : ℕ) → b < n → member second b ≡ not (member first b))
    (front : (k : ℕ) → k < 49 * members first n → get_or rows k 0 ≡ get_or one k 0)
    (behind : (k : ℕ) → k < 49 * members second n → get_or rows (49 * members first n + k) 0 ≡ get_or two k 0)
    (long : length rows ≡ 49 * members first n + 49 * members second n)
    (sent : (b : ℕ) → b < n → member first b ≡ true → RowOf s b one (members first b))
    (sent' : (b : ℕ) → b < n → member second b ≡ true → RowOf t b two (members second b)) where
  total : rows_in rows ≡ members first n + members second n
  total = omega arith

  -- the row of a body of the first share
  row_first : (b : ℕ) → b < n → member first b ≡ true → RowOf (mixed first s t) b rows (members first b)
  row_first b h e =
      let m = members_within first b n e h in
      let word : (from : ℕ) → from + 8 ≤ 49 → word_at rows (49 * members first b + from) ≡ word_at one (49 * members first b + from) =
      λ from f. number_stays 8 rows one (49 * members first b + from) (λ k l r. front k (omega arith)) in
      record {
        body = front (49 * members first b) (omega arith) ∙ (sent b h e).body;
        momenta = λ a k. word (1 + 8 * a) (omega arith) ∙ (sent b h e).momenta a k ∙ ap (λ c. (cond c (s.momentum b a) (t.momentum b a)).value) (sym e);
        positions = λ a k. word (25 + 8 * a) (omega arith) ∙ (sent b h e).positions a k ∙ ap (λ c. (cond c (s.position b a) (t.position b a)).value) (sym e);
      }

  -- and of one of the second
  row_second : (b : ℕ) → b < n → member first b ≡ false → RowOf (mixed first s t) b rows (members first n + members second b)
  row_second b h e =
      let there : member second b ≡ true = others b h ∙ ap not e in
      let m = members_within second b n there h in
      let byte : (k : ℕ) → k < 49 → get_or rows (49 * (members first n + members second b) + k) 0 ≡ get_or two (49 * members second b + k) 0 =
      λ k l. ap (λ i. get_or rows i 0) (omega arith) ∙ behind (49 * members second b + k) (omega arith) in
      let word : (from : ℕ) → from + 8 ≤ 49 → word_at rows (49 * (members first n + members second b) + from) ≡ word_at two (49 * members second b + from) =
      λ from f. number_moved 8 rows two (49 * (members first n + members second b) + from) (49 * members second b + from)
      (λ k l. ap (λ i. get_or rows i 0) (omega arith) ∙ byte (from + k) (omega arith) ∙ ap (λ i. get_or two i 0) (omega arith)) in
      record {
        body = ap (λ i. get_or rows i 0) (omega arith) ∙ byte 0 (omega arith) ∙ ap (λ i. get_or two i 0) (omega arith) ∙ (sent' b h there).body;
        momenta = λ a k. word (1 + 8 * a) (omega arith) ∙ (sent' b h there).momenta a k ∙ ap (λ c. (cond c (s.momentum b a) (t.momentum b a)).value) (sym e);
        positions = λ a k. word (25 + 8 * a) (omega arith) ∙ (sent' b h there).positions a k ∙ ap (λ c. (cond c (s.position b a) (t.position b a)).value) (sym e);
      }

  -- where a body's row is
  index : ℕ → ℕ
  index b = cond (member first b) (members first b) (members first n + members second b)

  row_at : (b : ℕ) → b < n → RowOf (mixed first s t) b rows (index b)
  unfolding index
  row_at b h = by (member first b) refl
    where
      by : (c : Bool) → member first b ≡ c → RowOf (mixed first s t) b rows (cond (member first b) (members first b) (members first n + members second b))
      by true e = subst (λ c. RowOf (mixed first s t) b rows (cond c (members first b) (members first n + members second b))) (sym e) (row_first b h e)
      by false e = subst (λ c. RowOf (mixed first s t) b rows (cond c (members first b) (members first n + members second b))) (sym e) (row_second b h e)

  index_within : (b : ℕ) → b < n → index b < members first n + members second n
  unfolding index
  index_within b h = by (member first b) refl
    where
      by : (c : Bool) → member first b ≡ c → cond (member first b) (members first b) (members first n + members second b) < members first n + members second n
      by true e = rw e (let m = members_within first b n e h in omega arith)
      by false e = rw e (let m = members_within second b n (others b h ∙ ap not e) h in omega arith)

  -- whose row a row is
  whose : (k : ℕ) → k < members first n + members second n → (b : ℕ) × (b < n) × (index b ≡ k)
  unfolding index
  whose k h = elim (leb_tells (members first n) k) [
    | inl u ↦ let found = member_at second n (k - members first n) (omega arith) in
        let out : member first found.0 ≡ false = not-true (member first found.0) (sym (others found.0 found.1) ∙ found.2) in
        (found.0, found.1, rw out (let e = found.3 in omega arith))
    | inr u ↦ let found = member_at first n k (omega arith) in (found.0, found.1, rw found.2 found.3)
  ]

  pub rows_carry : (k : ℕ) → k < rows_in rows → RowOf (mixed first s t) (row_body rows k) rows k
  rows_carry k h =
      let found = whose k (let e = total in omega arith) in
      let at : RowOf (mixed first s t) found.0 rows k = subst (RowOf (mixed first s t) found.0 rows) found.2 (row_at found.0 found.1) in
      subst (λ b. RowOf (mixed first s t) b rows k) (sym at.body) at

  body_of : (k : ℕ) (h : k < members first n + members second n) → row_body rows k ≡ (whose k h).0
  body_of k h = let found = whose k h in subst (λ i. row_body rows i ≡ found.0) found.2 (row_at found.0 found.1).body

  pub rows_once : EachOnce n rows
  rows_once = record {
    exact = let e = total in omega arith;
    distinct = record {
      below = λ k h. let l : k < members first n + members second n = (let e = total in omega arith) in
          subst (λ b. b < n) (sym (body_of k l)) (whose k l).1;
      apart = λ i j h l same.
          let li : i < members first n + members second n = (let e = total in omega arith) in
          let lj : j < members first n + members second n = (let e = total in omega arith) in
          let bodies : (whose i li).0 ≡ (whose j lj).0 = sym (body_of i li) ∙ same ∙ body_of j lj in
          let rows_same : i ≡ j = sym (whose i li).2 ∙ ap index bodies ∙ (whose j lj).2 in
          omega arith;
    };
    everyone = λ b h. (index b, (let e = total in let w = index_within b h in omega arith), (row_at b h).body);
  }

-- the rows of the second share, written behind those of the first
pub gathered_rows : (n : ℕ) (first second : List Bool) (s t : WordsState) (before one part two : List ℕ) (sent more left : ℕ) →
    ((b : ℕ) → b < n → member second b ≡ not (member first b)) → Sent n first s sent before one → Sent n second t more part two →
    left ≡ length one - sent → length two ≡ left → sent + more ≤ length one →
    RowsOf n (mixed first s t) (take (sent + more) (put_mid sent left one two))
gathered_rows n first second s t before one part two sent more left others first_sent second_sent left_is long room = record {
  once = rows_once n first second s t all one two others front behind size first_sent.rows second_sent.rows;
  carried = rows_carry n first second s t all one two others front behind size first_sent.rows second_sent.rows;
}
  where
    all : List ℕ
    all = take (sent + more) (put_mid sent left one two)

    room' : sent + left ≤ length one
    room' = omega arith

    front : (k : ℕ) → k < 49 * members first n → get_or all k 0 ≡ get_or one k 0
    front k h = let e = first_sent.size in
        get_or-take (sent + more) (put_mid sent left one two) k 0 (omega arith) ∙ placed_other sent left one two room' long k (inl (omega arith))

    behind : (k : ℕ) → k < 49 * members second n → get_or all (49 * members first n + k) 0 ≡ get_or two k 0
    behind k h = let e = first_sent.size in let f = second_sent.size in
        ap (λ m. get_or all (m + k) 0) (sym e) ∙ get_or-take (sent + more) (put_mid sent left one two) (sent + k) 0 (omega arith)
        ∙ placed_own sent left one two room' long k (omega arith)

    size : length all ≡ 49 * members first n + 49 * members second n
    size = let e = first_sent.size in let f = second_sent.size in
        let l : length (put_mid sent left one two) ≡ length one = search (rules, places) in
        length-take-le (sent + more) (put_mid sent left one two) (omega arith) ∙ omega arith

-- behind the rows of both nothing has changed
pub gathered_behind : (n : ℕ) (first second : List Bool) (s t : WordsState) (before one two : List ℕ) (sent more left : ℕ) →
    ((b : ℕ) → b < n → member second b ≡ not (member first b)) → Sent n first s sent before one → Sent n second t more (take left (drop sent one)) two →
    left ≡ length one - sent → length two ≡ left → sent ≤ length one → drop (49 * n) (put_mid sent left one two) ≡ drop (49 * n) before
gathered_behind n first second s t before one two sent more left others first_sent second_sent left_is long room =
    let e = first_sent.size in
    let f = second_sent.size in
    let both = members_both first second n others in
    let sum : 49 * n ≡ sent + more = omega arith in
    let rest : drop sent (put_mid sent left one two) ≡ two =
    drop_at (take sent one) (two ++ post_of sent left one) sent (length-take-le sent one room)
    ∙ ap (λ l. two ++ l) (drop-drop left sent one ∙ drop_all (sent + left) one (omega arith)) ∙ append-nil two in
    ap (λ k. drop k (put_mid sent left one two)) sum ∙ sym (drop-drop more sent (put_mid sent left one two)) ∙ ap (drop more) rest
    ∙ second_sent.behind ∙ ap (λ m. drop more (take m (drop sent one))) left_is ∙ ap (drop more) (take_rest one sent ∙ first_sent.behind)
    ∙ drop-drop more sent before ∙ ap (λ k. drop k before) (sym sum)
