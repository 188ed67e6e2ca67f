-- Rows without fault, of whole length, that show everybody, hold each body once.
use Rattle.std.proofs.Common.{◌≡◌, ◌%◌, ℕ, List, Bool, length, sym, ap, ◌∙◌}
use Rattle.std.specs.List.{list_all, range_with_len}
use Rattle.std.proofs.lemmas.Bool.{eqb-true}
use Rattle.motion.specs.Refusals.{refused}
use Rattle.shares.specs.Rows.{rows_in, rows_of}
use Rattle.shares.specs.Taking.{all_seen}
use Rattle.shares.proofs.Chunks.{is_among, all_among}
use Rattle.shares.proofs.TakenRows.{ending_good, ending_missing, each_once}
use Rattle.shares.proofs.taking.check_rows.Goals as goal

-- what was asked of the rows is what is asked of their bytes
all_asked : (bytes : List ℕ) (rows : List (List ℕ)) (n : ℕ) (answer : Bool) → rows ≡ rows_of bytes → answer ≡ list_all (is_among rows) (range_with_len 0 n) → all_seen bytes (rows_in bytes) n ≡ answer
all_asked bytes rows n answer read asked = sym (all_among bytes n) ∙ ap (λ l. list_all (is_among l) (range_with_len 0 n)) (sym read) ∙ sym asked

pub returns-then-not-all_seen_in-clause-answer : goal.returns-then-not-all_seen_in-clause-answer
returns-then-not-all_seen_in-clause-answer c =
    let n = c.args.count in
    let bytes = c.args.bytes.now in
    let rows = c.as_chunks.result.0.now in
    let read = c.as_chunks.ensures.front in
    let whole : length bytes % 49 ≡ 0 = sym c.as_chunks.ensures.back_len ∙ eqb-true _ 0 (sym c.is_empty.ensures ∙ c.if-not-is_empty.false) in
    let missing = all_asked bytes rows n _ read c.all_seen_in.ensures ∙ c.if-not-all_seen_in.true in
    ap (refused 9) c.as_chunks.ensures.front_len ∙ sym ((c.in_ok-check_bodies.ensures bytes read).0 ∙ ending_missing n bytes whole missing)

pub returns : goal.returns
returns c =
    let n = c.args.count in
    let bytes = c.args.bytes.now in
    let rows = c.as_chunks.result.0.now in
    let read = c.as_chunks.ensures.front in
    let whole : length bytes % 49 ≡ 0 = sym c.as_chunks.ensures.back_len ∙ eqb-true _ 0 (sym c.is_empty.ensures ∙ c.if-not-is_empty.false) in
    let all = all_asked bytes rows n _ read c.all_seen_in.ensures ∙ c.if-not-all_seen_in.false in
    let bodies = c.in_ok-check_bodies.ensures bytes read in
    record { answer = sym (bodies.0 ∙ ending_good n bytes whole all); once = each_once n bytes bodies.1 whole all }
