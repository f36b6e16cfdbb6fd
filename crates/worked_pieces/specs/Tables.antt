-- Tables worked in whole pieces, in all numbers: sources 0 and 1 are the fixed bits, source i + 2 is place i.
use Rattle.std.specs.Prelude.{List, [], ◌∷◌, ◌++◌, ℕ}
use Rattle.worked.specs.Cases.{row, piece, figures}
use Rattle.worked_pieces.specs.Work.{Held, Step, slice, Work}

-- Links, last and first, from source 0 on. What stands at the fixed bits in `last`, and in `first` where no run ends, is not read.
abbrev pub held : List ℕ → List ℕ → List ℕ → Held
held links last first = record { links = links; last = last; first = first }

-- A step whose pairs are ties; one whose pairs say nothing.
abbrev pub tied : ℕ → List ℕ → List ℕ → List ℕ → Step
tied pairs links last first = record { what = 1; pairs = pairs; on = held links last first }

abbrev pub untied : ℕ → List ℕ → List ℕ → List ℕ → Step
untied pairs links last first = record { what = 0; pairs = pairs; on = held links last first }

-- Document 01's case 2: a variable of 9, bits 7 to 3 equal to 5 to 1. Steps of 2, 2 and 1 ties; runs 2-4, 5-6, 7-8, 9, 10.
abbrev pub case2 : Work
case2 =
    record {
      table = row 0 9 0 0 ++ row 3 0 7 3 ++ row 3 0 5 1 ++ row 4 1 2 0;
      row = 3;
      cut = slice 3 5 5 ∷ [];
      start = held
          (0 ∷ 1 ∷ 2 ∷ 3 ∷ 4 ∷ 5 ∷ 6 ∷ 7 ∷ 8 ∷ 9 ∷ 10 ∷ [])
          (0 ∷ 0 ∷ 10 ∷ 10 ∷ 10 ∷ 10 ∷ 10 ∷ 10 ∷ 10 ∷ 10 ∷ 10 ∷ [])
          (0 ∷ 0 ∷ 0 ∷ 0 ∷ 0 ∷ 0 ∷ 0 ∷ 0 ∷ 0 ∷ 0 ∷ 2 ∷ []);
      steps =
          tied 2
          (0 ∷ 1 ∷ 2 ∷ 3 ∷ 4 ∷ 3 ∷ 4 ∷ 7 ∷ 8 ∷ 9 ∷ 10 ∷ [])
          (0 ∷ 0 ∷ 4 ∷ 4 ∷ 4 ∷ 6 ∷ 6 ∷ 10 ∷ 10 ∷ 10 ∷ 10 ∷ [])
          (0 ∷ 0 ∷ 0 ∷ 0 ∷ 2 ∷ 0 ∷ 5 ∷ 0 ∷ 0 ∷ 0 ∷ 7 ∷ [])
          ∷ tied 2
          (0 ∷ 1 ∷ 2 ∷ 3 ∷ 4 ∷ 3 ∷ 4 ∷ 3 ∷ 4 ∷ 9 ∷ 10 ∷ [])
          (0 ∷ 0 ∷ 4 ∷ 4 ∷ 4 ∷ 6 ∷ 6 ∷ 8 ∷ 8 ∷ 10 ∷ 10 ∷ [])
          (0 ∷ 0 ∷ 0 ∷ 0 ∷ 2 ∷ 0 ∷ 5 ∷ 0 ∷ 7 ∷ 0 ∷ 9 ∷ [])
          ∷ tied 1
          (0 ∷ 1 ∷ 2 ∷ 3 ∷ 4 ∷ 3 ∷ 4 ∷ 3 ∷ 4 ∷ 3 ∷ 10 ∷ [])
          (0 ∷ 0 ∷ 4 ∷ 4 ∷ 4 ∷ 6 ∷ 6 ∷ 8 ∷ 8 ∷ 9 ∷ 10 ∷ [])
          (0 ∷ 0 ∷ 0 ∷ 0 ∷ 2 ∷ 0 ∷ 5 ∷ 0 ∷ 7 ∷ 9 ∷ 10 ∷ [])
          ∷ [];
      held = held
          (0 ∷ 1 ∷ 2 ∷ 3 ∷ 4 ∷ 3 ∷ 4 ∷ 3 ∷ 4 ∷ 3 ∷ 10 ∷ [])
          (0 ∷ 0 ∷ 4 ∷ 4 ∷ 4 ∷ 6 ∷ 6 ∷ 8 ∷ 8 ∷ 9 ∷ 10 ∷ [])
          (0 ∷ 0 ∷ 0 ∷ 0 ∷ 2 ∷ 0 ∷ 5 ∷ 0 ∷ 7 ∷ 9 ∷ 10 ∷ []);
      found = figures 2 9 4 4 5 0;
      answer = piece 0 2 1 0 0 8 ++ piece 0 2 1 1 0 7 ++ piece 0 2 1 2 0 6 ++ piece 0 2 1 1 0 7 ++ piece 0 2 1 2 0 6 ++ piece 0 2 1 1 0 7 ++ piece 0 2 1 2 0 6 ++ piece 0 2 1 1 0 7 ++ piece 0 2 1 3 0 0;
      patterns = 16;
    }

-- A variable of 10, bits 8 to 3 equal to 6 to 1. Runs 2-4, 5-6, 7-8, 9-10, 11; rows of 1, 2, 2, 2, 2 and 1 bits.
abbrev pub ten_bits : Work
ten_bits =
    record {
      table = row 0 10 0 0 ++ row 3 0 8 3 ++ row 3 0 6 1 ++ row 4 1 2 0;
      row = 3;
      cut = slice 3 5 6 ∷ [];
      start = held
          (0 ∷ 1 ∷ 2 ∷ 3 ∷ 4 ∷ 5 ∷ 6 ∷ 7 ∷ 8 ∷ 9 ∷ 10 ∷ 11 ∷ [])
          (0 ∷ 0 ∷ 11 ∷ 11 ∷ 11 ∷ 11 ∷ 11 ∷ 11 ∷ 11 ∷ 11 ∷ 11 ∷ 11 ∷ [])
          (0 ∷ 0 ∷ 0 ∷ 0 ∷ 0 ∷ 0 ∷ 0 ∷ 0 ∷ 0 ∷ 0 ∷ 0 ∷ 2 ∷ []);
      steps =
          tied 2
          (0 ∷ 1 ∷ 2 ∷ 3 ∷ 4 ∷ 3 ∷ 4 ∷ 7 ∷ 8 ∷ 9 ∷ 10 ∷ 11 ∷ [])
          (0 ∷ 0 ∷ 4 ∷ 4 ∷ 4 ∷ 6 ∷ 6 ∷ 11 ∷ 11 ∷ 11 ∷ 11 ∷ 11 ∷ [])
          (0 ∷ 0 ∷ 0 ∷ 0 ∷ 2 ∷ 0 ∷ 5 ∷ 0 ∷ 0 ∷ 0 ∷ 0 ∷ 7 ∷ [])
          ∷ tied 2
          (0 ∷ 1 ∷ 2 ∷ 3 ∷ 4 ∷ 3 ∷ 4 ∷ 3 ∷ 4 ∷ 9 ∷ 10 ∷ 11 ∷ [])
          (0 ∷ 0 ∷ 4 ∷ 4 ∷ 4 ∷ 6 ∷ 6 ∷ 8 ∷ 8 ∷ 11 ∷ 11 ∷ 11 ∷ [])
          (0 ∷ 0 ∷ 0 ∷ 0 ∷ 2 ∷ 0 ∷ 5 ∷ 0 ∷ 7 ∷ 0 ∷ 0 ∷ 9 ∷ [])
          ∷ tied 2
          (0 ∷ 1 ∷ 2 ∷ 3 ∷ 4 ∷ 3 ∷ 4 ∷ 3 ∷ 4 ∷ 3 ∷ 4 ∷ 11 ∷ [])
          (0 ∷ 0 ∷ 4 ∷ 4 ∷ 4 ∷ 6 ∷ 6 ∷ 8 ∷ 8 ∷ 10 ∷ 10 ∷ 11 ∷ [])
          (0 ∷ 0 ∷ 0 ∷ 0 ∷ 2 ∷ 0 ∷ 5 ∷ 0 ∷ 7 ∷ 0 ∷ 9 ∷ 11 ∷ [])
          ∷ [];
      held = held
          (0 ∷ 1 ∷ 2 ∷ 3 ∷ 4 ∷ 3 ∷ 4 ∷ 3 ∷ 4 ∷ 3 ∷ 4 ∷ 11 ∷ [])
          (0 ∷ 0 ∷ 4 ∷ 4 ∷ 4 ∷ 6 ∷ 6 ∷ 8 ∷ 8 ∷ 10 ∷ 10 ∷ 11 ∷ [])
          (0 ∷ 0 ∷ 0 ∷ 0 ∷ 2 ∷ 0 ∷ 5 ∷ 0 ∷ 7 ∷ 0 ∷ 9 ∷ 11 ∷ []);
      found = figures 2 6 3 4 6 0;
      answer = piece 0 2 1 0 0 9 ++ piece 0 2 2 1 0 8 ++ piece 0 2 2 1 0 8 ++ piece 0 2 2 1 0 8 ++ piece 0 2 2 1 0 8 ++ piece 0 2 1 2 0 0;
      patterns = 16;
    }

-- Document 001's running example, with its slices as on its page. Runs 2, 3-4, 5-8, 9, 10, 11-13.
abbrev pub running_example : Work
running_example =
    record {
      table = row 0 3 0 0 ++ row 0 4 0 0 ++ row 0 5 0 0 ++ row 1 0 4 0 ++ row 2 1 2 0 ++ row 3 4 5 4 ++ row 2 0 5 0 ++ row 2 6 3 0 ++ row 3 1 2 1 ++ row 2 8 0 0 ++ row 3 9 4 0 ++ row 2 10 2 0 ++ row 2 11 0 0 ++ row 3 12 10 2 ++ row 4 7 13 0;
      row = 14;
      cut = slice 2 2 3 ∷ slice 8 9 1 ∷ slice 9 10 1 ∷ slice 0 11 3 ∷ slice 0 2 1 ∷ [];
      start = held
          (0 ∷ 1 ∷ 2 ∷ 3 ∷ 4 ∷ 5 ∷ 6 ∷ 7 ∷ 8 ∷ 9 ∷ 10 ∷ 11 ∷ 12 ∷ 13 ∷ [])
          (0 ∷ 0 ∷ 4 ∷ 4 ∷ 4 ∷ 8 ∷ 8 ∷ 8 ∷ 8 ∷ 13 ∷ 13 ∷ 13 ∷ 13 ∷ 13 ∷ [])
          (0 ∷ 0 ∷ 0 ∷ 0 ∷ 2 ∷ 0 ∷ 0 ∷ 0 ∷ 5 ∷ 0 ∷ 0 ∷ 0 ∷ 0 ∷ 9 ∷ []);
      steps =
          untied 3
          (0 ∷ 1 ∷ 2 ∷ 3 ∷ 4 ∷ 5 ∷ 6 ∷ 7 ∷ 8 ∷ 9 ∷ 10 ∷ 11 ∷ 12 ∷ 13 ∷ [])
          (0 ∷ 0 ∷ 4 ∷ 4 ∷ 4 ∷ 8 ∷ 8 ∷ 8 ∷ 8 ∷ 13 ∷ 13 ∷ 13 ∷ 13 ∷ 13 ∷ [])
          (0 ∷ 0 ∷ 0 ∷ 0 ∷ 2 ∷ 0 ∷ 0 ∷ 0 ∷ 5 ∷ 0 ∷ 0 ∷ 0 ∷ 0 ∷ 9 ∷ [])
          ∷ tied 1
          (0 ∷ 1 ∷ 2 ∷ 3 ∷ 4 ∷ 5 ∷ 6 ∷ 7 ∷ 8 ∷ 8 ∷ 10 ∷ 11 ∷ 12 ∷ 13 ∷ [])
          (0 ∷ 0 ∷ 4 ∷ 4 ∷ 4 ∷ 8 ∷ 8 ∷ 8 ∷ 8 ∷ 9 ∷ 13 ∷ 13 ∷ 13 ∷ 13 ∷ [])
          (0 ∷ 0 ∷ 0 ∷ 0 ∷ 2 ∷ 0 ∷ 0 ∷ 0 ∷ 5 ∷ 9 ∷ 0 ∷ 0 ∷ 0 ∷ 10 ∷ [])
          ∷ tied 1
          (0 ∷ 1 ∷ 2 ∷ 3 ∷ 4 ∷ 5 ∷ 6 ∷ 7 ∷ 8 ∷ 8 ∷ 8 ∷ 11 ∷ 12 ∷ 13 ∷ [])
          (0 ∷ 0 ∷ 4 ∷ 4 ∷ 4 ∷ 8 ∷ 8 ∷ 8 ∷ 8 ∷ 9 ∷ 10 ∷ 13 ∷ 13 ∷ 13 ∷ [])
          (0 ∷ 0 ∷ 0 ∷ 0 ∷ 2 ∷ 0 ∷ 0 ∷ 0 ∷ 5 ∷ 9 ∷ 10 ∷ 0 ∷ 0 ∷ 11 ∷ [])
          ∷ tied 3
          (0 ∷ 1 ∷ 2 ∷ 3 ∷ 4 ∷ 5 ∷ 6 ∷ 7 ∷ 8 ∷ 8 ∷ 8 ∷ 0 ∷ 0 ∷ 0 ∷ [])
          (0 ∷ 0 ∷ 4 ∷ 4 ∷ 4 ∷ 8 ∷ 8 ∷ 8 ∷ 8 ∷ 9 ∷ 10 ∷ 13 ∷ 13 ∷ 13 ∷ [])
          (0 ∷ 0 ∷ 0 ∷ 0 ∷ 2 ∷ 0 ∷ 0 ∷ 0 ∷ 5 ∷ 9 ∷ 10 ∷ 0 ∷ 0 ∷ 11 ∷ [])
          ∷ tied 1
          (0 ∷ 1 ∷ 0 ∷ 3 ∷ 4 ∷ 5 ∷ 6 ∷ 7 ∷ 8 ∷ 8 ∷ 8 ∷ 0 ∷ 0 ∷ 0 ∷ [])
          (0 ∷ 0 ∷ 2 ∷ 4 ∷ 4 ∷ 8 ∷ 8 ∷ 8 ∷ 8 ∷ 9 ∷ 10 ∷ 13 ∷ 13 ∷ 13 ∷ [])
          (0 ∷ 0 ∷ 2 ∷ 0 ∷ 3 ∷ 0 ∷ 0 ∷ 0 ∷ 5 ∷ 9 ∷ 10 ∷ 0 ∷ 0 ∷ 11 ∷ [])
          ∷ [];
      held = held
          (0 ∷ 1 ∷ 0 ∷ 3 ∷ 4 ∷ 5 ∷ 6 ∷ 7 ∷ 8 ∷ 8 ∷ 8 ∷ 0 ∷ 0 ∷ 0 ∷ [])
          (0 ∷ 0 ∷ 2 ∷ 4 ∷ 4 ∷ 8 ∷ 8 ∷ 8 ∷ 8 ∷ 9 ∷ 10 ∷ 13 ∷ 13 ∷ 13 ∷ [])
          (0 ∷ 0 ∷ 2 ∷ 0 ∷ 3 ∷ 0 ∷ 0 ∷ 0 ∷ 5 ∷ 9 ∷ 10 ∷ 0 ∷ 0 ∷ 11 ∷ []);
      found = figures 2 7 3 6 6 0;
      answer = piece 0 0 1 0 0 2 ++ piece 0 2 2 0 0 1 ++ piece 1 2 3 1 1 3 ++ piece 1 2 1 2 1 0 ++ piece 2 2 1 2 1 0 ++ piece 2 2 1 2 1 0 ++ piece 2 0 3 0 2 2;
      patterns = 64;
    }

-- A word of 8 equal to two zeros before a word of 4, which is filled with two more: the four zeros are one piece, so there is no border behind 2 bits.
-- Runs 2-5, 6-9, 10-13.
abbrev pub zeros_and_fill : Work
zeros_and_fill =
    record {
      table = row 0 8 0 0 ++ row 0 4 0 0 ++ row 1 0 2 0 ++ row 2 2 1 0 ++ row 4 0 3 0;
      row = 4;
      cut = slice 2 0 4 ∷ slice 6 10 4 ∷ [];
      start = held
          (0 ∷ 1 ∷ 2 ∷ 3 ∷ 4 ∷ 5 ∷ 6 ∷ 7 ∷ 8 ∷ 9 ∷ 10 ∷ 11 ∷ 12 ∷ 13 ∷ [])
          (0 ∷ 0 ∷ 9 ∷ 9 ∷ 9 ∷ 9 ∷ 9 ∷ 9 ∷ 9 ∷ 9 ∷ 13 ∷ 13 ∷ 13 ∷ 13 ∷ [])
          (0 ∷ 0 ∷ 0 ∷ 0 ∷ 0 ∷ 0 ∷ 0 ∷ 0 ∷ 0 ∷ 2 ∷ 0 ∷ 0 ∷ 0 ∷ 10 ∷ []);
      steps =
          tied 4
          (0 ∷ 1 ∷ 0 ∷ 0 ∷ 0 ∷ 0 ∷ 6 ∷ 7 ∷ 8 ∷ 9 ∷ 10 ∷ 11 ∷ 12 ∷ 13 ∷ [])
          (0 ∷ 0 ∷ 5 ∷ 5 ∷ 5 ∷ 5 ∷ 9 ∷ 9 ∷ 9 ∷ 9 ∷ 13 ∷ 13 ∷ 13 ∷ 13 ∷ [])
          (0 ∷ 0 ∷ 0 ∷ 0 ∷ 0 ∷ 2 ∷ 0 ∷ 0 ∷ 0 ∷ 6 ∷ 0 ∷ 0 ∷ 0 ∷ 10 ∷ [])
          ∷ tied 4
          (0 ∷ 1 ∷ 0 ∷ 0 ∷ 0 ∷ 0 ∷ 6 ∷ 7 ∷ 8 ∷ 9 ∷ 6 ∷ 7 ∷ 8 ∷ 9 ∷ [])
          (0 ∷ 0 ∷ 5 ∷ 5 ∷ 5 ∷ 5 ∷ 9 ∷ 9 ∷ 9 ∷ 9 ∷ 13 ∷ 13 ∷ 13 ∷ 13 ∷ [])
          (0 ∷ 0 ∷ 0 ∷ 0 ∷ 0 ∷ 2 ∷ 0 ∷ 0 ∷ 0 ∷ 6 ∷ 0 ∷ 0 ∷ 0 ∷ 10 ∷ [])
          ∷ [];
      held = held
          (0 ∷ 1 ∷ 0 ∷ 0 ∷ 0 ∷ 0 ∷ 6 ∷ 7 ∷ 8 ∷ 9 ∷ 6 ∷ 7 ∷ 8 ∷ 9 ∷ [])
          (0 ∷ 0 ∷ 5 ∷ 5 ∷ 5 ∷ 5 ∷ 9 ∷ 9 ∷ 9 ∷ 9 ∷ 13 ∷ 13 ∷ 13 ∷ 13 ∷ [])
          (0 ∷ 0 ∷ 0 ∷ 0 ∷ 0 ∷ 2 ∷ 0 ∷ 0 ∷ 0 ∷ 6 ∷ 0 ∷ 0 ∷ 0 ∷ 10 ∷ []);
      found = figures 2 3 1 4 8 0;
      answer = piece 0 0 4 0 0 7 ++ piece 0 2 4 0 0 3 ++ piece 1 2 4 0 0 3;
      patterns = 16;
    }
