-- Words of every width are lawful numbers: each law is an equation of remainders, shown once for all k.
use Rattle.std.proofs.Common.{◌≡◌, ℕ, ◌+◌, ◌-◌, ◌%◌, ◌^◌, ◌<◌, sym, ap, ◌∙◌, add_assoc, mod-eq_of_lt, add_comm, arith}
use mathlib.Core.HLevel.{is_prop→PathP}
use native.Mathlib.Nat.{mod-add-mod, add-mod-mod, add-mod_right}
use native.Mathlib.Bridge.{le_prop}
use Rattle.words.specs.Numbers.{Lawful}
use Rattle.words.specs.Words.{Word, word, words}

-- words of one value are one word
pub same_word : {k : ℕ} {a b : Word k} → a.value ≡ b.value → a ≡ b
same_word {k} {a} {b} e =
    λ i. record { value = e i; small = is_prop→PathP (λ j. e j < 2 ^ k) (λ j. le_prop) a.small b.small i }

-- what is added and taken away again, in either order, is a whole turn
around : (k a b : ℕ) → b < 2 ^ k → (a + b) + (2 ^ k - b) ≡ a + 2 ^ k
around k a b h = omega arith

around_back : (k a b : ℕ) → b < 2 ^ k → (a + (2 ^ k - b)) + b ≡ a + 2 ^ k
around_back k a b h = omega arith

turned : (k a : ℕ) → a < 2 ^ k → (a + 2 ^ k) % 2 ^ k ≡ a
turned k a h = add-mod_right a (2 ^ k) ∙ mod-eq_of_lt h

pub words_lawful : (k : ℕ) → Lawful (words k)
words_lawful k = record {
  plus-less = λ a b. same_word
      (mod-add-mod (a.value + b.value) (2 ^ k) (2 ^ k - b.value)
      ∙ ap (λ n. n % 2 ^ k) (around k a.value b.value b.small) ∙ turned k a.value a.small);
  less-plus = λ a b. same_word
      (mod-add-mod (a.value + (2 ^ k - b.value)) (2 ^ k) b.value
      ∙ ap (λ n. n % 2 ^ k) (around_back k a.value b.value b.small) ∙ turned k a.value a.small);
  plus_comm = λ a b. ap (word k) (add_comm a.value b.value);
  plus_assoc = λ a b c. same_word
      (mod-add-mod (a.value + b.value) (2 ^ k) c.value
      ∙ ap (λ n. n % 2 ^ k) (add_assoc a.value b.value c.value)
      ∙ sym (add-mod-mod a.value (b.value + c.value) (2 ^ k)));
  none-plus = λ a. same_word
      (mod-add-mod 0 (2 ^ k) a.value ∙ ap (λ n. n % 2 ^ k) (omega arith) ∙ mod-eq_of_lt a.small);
}
