-- The pass of `read_form`: with i rows passed, all of them fine, the state is that of these rows. And what `form_of` makes of it.
use mathlib.Core.Path.{◌≡◌, refl, sym, ap, ◌∙◌, subst}
use mathlib.Core.Bool.{Bool, true, false, ◌&&◌, and-false}
use mathlib.Core.List.{List, [], ◌∷◌, ◌++◌}
use Prim.Native.Nat.{ℕ, suc, ◌+◌, ◌/◌, ◌%◌, ◌≤◌, ◌<◌}
use native.Mathlib.Omega.{arith}
use native.Mathlib.Numerals.{add-one}
use lib.Dec.{eqb}
use Rattle.std.specs.Prelude.{Option, Some, None, is_some}
use mathlib.Core.Logic.{◌≢◌}
use borrow.Author.Tests.{eq-eqb, ne_eqb}
use lib.ListN.{length, get_or, set, take, drop, length-set, drop_of_length-le}
use lib.Seq.{take-suc, take_all, drop-cons}
use Rattle.laws.proofs.Bools.{clash}
use Rattle.answers.specs.declared.AnswerRow.{AnswerRow}
use Rattle.answers.specs.Answer.{answer_row_at, no_answer_row, answer_rows_of, fresh_start, free_bits}
use Rattle.answers.proofs.AnswerNumbers.{answer_length}
use Rattle.assignments.specs.Form.{rows_fine, has_form}
use Rattle.assignments.proofs.FreshPieces.{number_in, pieces_below}
use Rattle.assignments.proofs.FormFacts.{piece_within}
use Rattle.homes.specs.inner.Homes.{TestsHomes}
use Rattle.homes.proofs.Whole.{homes_tested}
use Rattle.shapes.specs.declared.Progress.{Progress}
use Rattle.shapes.specs.declared.Found.{Found}
use Rattle.shapes.specs.inner.Shapes.{fine_in, advanced, Shaped, rows_form, FormRead, ReadsForm, FindsForm}
use Rattle.shapes.proofs.Passed.{Passed, at_first, passed_none, row_is}
use Rattle.shapes.proofs.Passing.{passed_more}

-- with every row passed, the counts and the starts are the table's
pub shaped : (rows : List AnswerRow) (p : Progress) (widths starts : List ℕ) → Passed rows p widths starts → Shaped rows starts p.bits p.free
unfolding free_bits
shaped rows p widths starts k = record {
  bits_are = k.bits_are;
  free_are = k.free_is ∙ ap (fresh_start rows) (sym (pieces_below p.pieces rows k.pieces_are));
  starts_are = λ j l f. let n = (answer_row_at rows j).fresh in k.starts_are n (k.pieces_are.only n (number_in rows j l f));
  pieces_in = piece_within rows k.formed;
}

-- the state with the first i rows passed
pub record Going (rows : List AnswerRow) (widths starts : List ℕ) (p : Progress) (i : ℕ) : Type 0 where
  pub same : rows_fine [] rows ≡ rows_fine (take i rows) (drop i rows)
  pub passed : Passed (take i rows) p widths starts

-- the pass over the rows, whatever they are
pub record Reading (answer widths₀ starts₀ widths starts : List ℕ) (p : Progress) (i : ℕ) : Type 0 where
  pub within : i ≤ length answer / 6
  pub widths_len : length widths ≡ length widths₀
  pub starts_len : length starts ≡ length starts₀
  pub going : 4096 ≤ length widths₀ → 4096 ≤ length starts₀ → Going (answer_rows_of answer) widths starts p i

first_state : (v n k w b i f : ℕ) → v ≡ 0 → n ≡ 0 → k ≡ 2 → w ≡ 0 → b ≡ 0 → i ≡ 0 → f ≡ 0
    → record { variable = v; next = n; kind = k; width = w; bits = b; pieces = i; free = f } ≡ at_first
first_state v n k w b i f ev en ek ew eb ei ef = rw (ev, en, ek, ew, eb, ei, ef)

pub reading_first : (answer widths starts : List ℕ) (p : Progress)
    → p.variable ≡ 0 → p.next ≡ 0 → p.kind ≡ 2 → p.width ≡ 0 → p.bits ≡ 0 → p.pieces ≡ 0 → p.free ≡ 0 → Reading answer widths starts widths starts p 0
reading_first answer widths starts p ev en ek ew eb ei ef = record {
  within = omega arith;
  widths_len = refl;
  starts_len = refl;
  going = λ room space. record {
    same = refl;
    passed = subst (λ (q : Progress). Passed [] q widths starts) (sym (first_state p.variable p.next p.kind p.width p.bits p.pieces p.free ev en ek ew eb ei ef)) (passed_none widths starts);
  };
}

module _ (answer widths₀ starts₀ widths starts : List ℕ) (p : Progress) (i : ℕ) (k : Reading answer widths₀ starts₀ widths starts p i) where
  abbrev rows : List AnswerRow
  rows = answer_rows_of answer

  module _ (l : i < length answer / 6) (r : AnswerRow) (er : r ≡ answer_row_at (answer_rows_of answer) i) (number : ℕ) (en : number ≡ r.fresh) (w : ℕ) (found : w ≡ get_or widths number 0) where
    ew : w ≡ get_or widths r.fresh 0
    ew = found ∙ ap (λ (x : ℕ). get_or widths x 0) en

    there : i < length rows
    there = omega (arith, answer_length answer)

    row_here : answer_row_at rows i ≡ r
    row_here = sym er

    next_rows : take (suc i) rows ≡ take i rows ++ (r ∷ [])
    next_rows = take-suc rows i no_answer_row there ∙ ap (λ (s : AnswerRow). take i rows ++ (s ∷ [])) row_here

    tested : Passed (take i rows) p widths starts → rows_fine (take i rows) (drop i rows) ≡ fine_in p r w && rows_fine (take (suc i) rows) (drop (suc i) rows)
    unfolding rows_fine
    tested q =
        rw (drop-cons rows i no_answer_row there, row_here, next_rows)
        (ap (λ (t : Bool). t && rows_fine (take i rows ++ (r ∷ [])) (drop (suc i) rows)) (row_is (take i rows) p widths starts q r ∙ ap (fine_in p r) (sym ew)))

    pub reading_more : fine_in p r w ≡ true → (place : ℕ) (widths' starts' : List ℕ) (q : Progress) → place ≡ p.pieces → widths' ≡ set widths place r.width
        → starts' ≡ set starts place p.free → q ≡ advanced p r → Reading answer widths₀ starts₀ widths' starts' q (i + 1)
    reading_more fine place widths' starts' q ep ws ss eq =
        rw (add-one)
        (record {
          within = omega arith;
          widths_len = ap length ws ∙ length-set widths place r.width ∙ k.widths_len;
          starts_len = ap length ss ∙ length-set starts place p.free ∙ k.starts_len;
          going = λ room space. one_more (k.going room space) (omega (arith, k.widths_len)) (omega (arith, k.starts_len));
        })
      where
        one_more : Going (answer_rows_of answer) widths starts p i → 4096 ≤ length widths → 4096 ≤ length starts → Going (answer_rows_of answer) widths' starts' q (suc i)
        one_more g room space = record {
          same = g.same ∙ tested g.passed ∙ rw fine;
          passed = rw (ws, ss, eq, ep, next_rows) (passed_more (take i rows) p widths starts g.passed r (row_is (take i rows) p widths starts g.passed r ∙ ap (fine_in p r) (sym ew) ∙ fine) room space);
        }

    pub reading_bad : fine_in p r w ≡ false → ReadsForm answer widths₀ starts₀ starts None
    unfolding rows_form
    reading_bad bad room space =
        let g = k.going room space in
        let e : rows_form answer ≡ false =
        unfold rows_form in (ap (λ (t : Bool). eqb (length answer % 6) 0 && t) (g.same ∙ tested g.passed ∙ rw bad) ∙ and-false (eqb (length answer % 6) 0)) in
        record { fine_is = sym e; shaped = λ h. clash (rows_form answer) h e }

  pub reading_done : length answer / 6 ≤ i → length answer % 6 ≡ 0 → ReadsForm answer widths₀ starts₀ starts (Some (record { bits = p.bits; free = p.free }))
  unfolding rows_form rows_fine
  reading_done l whole room space =
      let g = k.going room space in
      let n = answer_length answer in
      let e = eq-eqb (length answer % 6) 0 whole in
      record {
        fine_is = sym (rw e (g.same ∙ rw (drop_of_length-le rows {i = i} (omega arith))));
        shaped = λ h. rw (take_all i rows (omega arith)) at (shaped (take i rows) p widths starts g.passed);
      }

-- a table that is not whole rows
pub reading_part : (answer widths starts starts' : List ℕ) → (length answer % 6 ≢ 0) → ReadsForm answer widths starts starts' None
unfolding rows_form
reading_part answer widths starts starts' part room space =
    let e : rows_form answer ≡ false = unfold rows_form in (rw (ne_eqb (length answer % 6) 0 part)) in
    record { fine_is = sym e; shaped = λ h. clash (rows_form answer) h e }

-- A table has the form if its rows have it and the test of their homes passes.
rows_bad : (answer : List ℕ) → rows_form answer ≡ false → has_form answer ≡ false
unfolding has_form rows_form
rows_bad answer f = rw f

rows_tested : (answer : List ℕ) (room : ℕ) (b : Bool) → rows_form answer ≡ true → TestsHomes answer room b → 4096 ≤ room → has_form answer ≡ b
unfolding has_form rows_form
rows_tested answer room b f t l = rw f (homes_tested answer room b f t l)

module _ (answer : List ℕ) (space : ℕ) (starts : List ℕ) (found : Option Found) (k : 4096 ≤ space → FormRead answer starts found) where
  pub form_bad : is_some found ≡ false → FindsForm answer space starts None
  form_bad f enough =
      let e : has_form answer ≡ false = rows_bad answer (sym (k enough).fine_is ∙ f) in
      record { fine_is = sym e; shaped = λ h. clash (has_form answer) h e }

  module _ (f : is_some found ≡ true) (room : ℕ) (b : Bool) (t : TestsHomes answer room b) (l : 4096 ≤ room) where
    tested_form : 4096 ≤ space → has_form answer ≡ b
    tested_form enough = rows_tested answer room b (sym (k enough).fine_is ∙ f) t l

    pub form_tested : b ≡ true → FindsForm answer space starts found
    form_tested e enough = record { fine_is = f ∙ sym e ∙ sym (tested_form enough); shaped = λ h. (k enough).shaped (sym (k enough).fine_is ∙ f) }

    pub form_homeless : b ≡ false → FindsForm answer space starts None
    form_homeless e enough =
        let g : has_form answer ≡ false = tested_form enough ∙ e in
        record { fine_is = sym g; shaped = λ h. clash (has_form answer) h g }
