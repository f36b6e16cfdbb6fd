-- What the theorem `settled` says of the links behind the closing sweep (proofs/Representatives.antt).
use Rattle.std.specs.Prelude.{◌≡◌, true, List, ℕ, suc, ◌≤◌, get_or}
use Rattle.laws.specs.Lists.{count_up, least}
use Rattle.terms.specs.Assignments.{Assignment}
use Rattle.terms.specs.Table.{rows_of, bits_of, satisfies}
use Rattle.answers.specs.Pairs.{equation_pairs, equal_under}
use Rattle.answers.specs.inner.Classes.{run_all}

-- Links are the representatives of a table's equations that count: the classes of their bit pairs; by meaning, the lowest source that has the same bit in
-- every pattern that meets them; each is its own root; and a place links to the fixed bit b exactly if it is b in every pattern that meets them.
pub record LinksSettled (table links : List ℕ) : Type 0 where
  pub classes : links ≡ run_all (count_up 0 (suc (suc (bits_of (rows_of table))))) (equation_pairs (rows_of table))
  pub lowest : (s : ℕ) → get_or links s 0 ≡ least (equal_under (bits_of (rows_of table)) (satisfies (rows_of table)) s) 0 s
  pub own_root : (s : ℕ) → get_or links (get_or links s 0) 0 ≡ get_or links s 0
  pub fixed_in_all : (i b : ℕ) → b ≤ 1 → get_or links (suc (suc i)) 0 ≡ b
      → (p : List ℕ) → Assignment (bits_of (rows_of table)) p → satisfies (rows_of table) p ≡ true → get_or p i 0 ≡ b
  pub in_all_fixed : (i b : ℕ) → b ≤ 1 → ((p : List ℕ) → Assignment (bits_of (rows_of table)) p → satisfies (rows_of table) p ≡ true → get_or p i 0 ≡ b)
      → get_or links (suc (suc i)) 0 ≡ b
