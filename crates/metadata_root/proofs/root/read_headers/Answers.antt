use Rattle.std.proofs.{Common.{◌≡◌, ◌≤◌, length, sym, subst, ◌∙◌, arith, add-one}, lemmas.Result.{err_from_is_err_and}}
use Rattle.metadata_root.{specs.Root.{header_place, stream_count}, specs.Reading.{IsHeaderFault, ReadsHeader}, proofs.Order.{next_place}}
use Rattle.metadata_root.proofs.FirstOfRoot.{AreGoodTo, header_is_first, good_step, listing_step, root_accepted}
use Rattle.metadata_root.proofs.root.read_headers.Goals as goal

pub returns-in_err-at-clause-first : goal.returns-in_err-at-clause-first
returns-in_err-at-clause-first c =
    let p = err_from_is_err_and c.from_residual.result c.from_residual.ensures.1 in
    let file = c.args.bytes.now in
    let i = c.loop.invariant in
    let prefix = c.requires.prefix in
    let fault = c.in_err-at.field-0.0 in
    rw (p.1, p.2) (header_is_first file prefix.signed c.loop.counter (omega (arith, c.loop-test.true, prefix.counted)) i.names c.loop.listing i.listing fault
    (subst (λ place. IsHeaderFault file place c.loop.listing fault) i.place c.in_err-at.ensures.fault))

pub loop-preserved : goal.loop-preserved
loop-preserved c =
    let file = c.args.bytes.now in
    let i = c.loop.invariant in
    let k = c.loop.counter in
    let old = c.loop.listing in
    let new = c.read_header.new.listing in
    let read = subst (λ place. ReadsHeader file place old new) i.place c.in_ok-at.ensures.read in
    let end = rw i.place at c.in_ok-at.ensures.end.0 in
    record {
      place = rw add-one (end ∙ sym (next_place file k));
      fits = c.in_ok-at.ensures.end.1;
      names = rw add-one (good_step file k old new i.listing read i.names);
      listing = rw add-one (listing_step file k old new i.listing read);
    }

pub returns-clause-accepted : goal.returns-clause-accepted
returns-clause-accepted c =
    let file = c.args.bytes.now in
    let i = c.loop.invariant in
    let prefix = c.requires.prefix in
    let all : c.loop.counter ≡ stream_count file = omega (arith, c.loop-test.false, c.loop.auto.counter-end, prefix.counted) in
    root_accepted file prefix.signed (subst (λ k. header_place file k ≤ length file) all (omega (arith, i.place, i.fits))) (subst (AreGoodTo file) all i.names)
