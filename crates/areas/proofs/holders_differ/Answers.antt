-- `holders_differ` meets its contract: the bits so far are none exactly if the numbers so far are the holders. Assumes nothing.
use mathlib.Core.Path.{◌≡◌, ◌∙◌, ap, sym}
use Prim.Native.Nat.{ℕ, min}
use native.Mathlib.Omega.{arith}
use lib.Dec.{eqb}
use mathlib.Core.List.{[], ◌∷◌}
use lib.ListN.{length, get_or, drop, length-append}
use Rattle.std.specs.Iterator.Adapters.{zip_first, zip_second}
use Rattle.std.specs.Slice.Iter.{iter_rest}
use Rattle.std.proofs.lemmas.Slice.Zip.{zip_turn, zip_end}
use Rattle.jobs.specs.Prefix.{host_number}
use Rattle.laws.specs.Lists.{below}
use Rattle.areas.specs.inner.Areas.{held_by, agree}
use Rattle.areas.proofs.Areas.{none_first, differ_more, held-count}
use Rattle.areas.proofs.holders_differ.Goals as goal

pub loop-x-init : goal.loop-x-init
loop-x-init c = none_first _

pub loop-x-preserved : goal.loop-x-preserved
loop-x-preserved c =
    let links = c.args.links.now in
    let work = c.args.work.now in
    let first : iter_rest (zip_first c.into_iter-x-iterator.result) ≡ work = ap (λ z. iter_rest (zip_first z)) c.into_iter-x-iterator.ensures.into_iter_gives ∙ ap iter_rest c.zip-x-items.ensures.first ∙ c.iter.ensures.rest in
    let behind : iter_rest (zip_second c.zip-x-items.result) ≡ c.of_places.result.now = c.zip-x-items.ensures.second.0 in
    let second : iter_rest (zip_second c.into_iter-x-iterator.result) ≡ drop 2 links = ap (λ z. iter_rest (zip_second z)) c.into_iter-x-iterator.ensures.into_iter_gives ∙ behind ∙ c.of_places.ensures in
    let turn = zip_turn work (drop 2 links) c.loop-x.yielded c.into_iter-x-iterator.result c.loop-x.x-iterator c.next.new.self c.next.result first second c.loop-x.yielded_by (c.in-Some.x, c.in-Some.s) c.in-Some.is c.next.ensures.steps in
    differ_more links work (length c.loop-x.yielded) c.loop-x.bits _ _ turn.1 (turn.2 0) (c.host_number.ensures ∙ ap host_number (turn.3 0)) c.loop-x.invariant
    ∙ ap (λ (k : ℕ). below k (λ j. eqb (get_or (held_by links) j 0) (get_or work j 0))) (sym (length-append c.loop-x.yielded ((c.in-Some.x, c.in-Some.s) ∷ [])))

pub returns : goal.returns
unfolding agree
returns c =
    let links = c.args.links.now in
    let work = c.args.work.now in
    let first : iter_rest (zip_first c.into_iter-x-iterator.result) ≡ work = ap (λ z. iter_rest (zip_first z)) c.into_iter-x-iterator.ensures.into_iter_gives ∙ ap iter_rest c.zip-x-items.ensures.first ∙ c.iter.ensures.rest in
    let behind : iter_rest (zip_second c.zip-x-items.result) ≡ c.of_places.result.now = c.zip-x-items.ensures.second.0 in
    let second : iter_rest (zip_second c.into_iter-x-iterator.result) ≡ drop 2 links = ap (λ z. iter_rest (zip_second z)) c.into_iter-x-iterator.ensures.into_iter_gives ∙ behind ∙ c.of_places.ensures in
    let end = zip_end work (drop 2 links) c.loop-x.yielded c.into_iter-x-iterator.result c.loop-x.x-iterator c.next.new.self c.next.result first second c.loop-x.yielded_by c.in-None.is c.next.ensures.steps in
    let whole : length c.loop-x.yielded ≡ min (length (held_by links)) (length work) = omega (arith, end, held-count links) in
    c.loop-x.invariant ∙ ap (λ (k : ℕ). below k (λ j. eqb (get_or (held_by links) j 0) (get_or work j 0))) whole
