use Rattle.std.proofs.Common.{◌≡◌, ◌≤◌, ◌++◌, length, take, drop, replicate, sym, ap, subst, ◌∙◌, arith}
use Rattle.ppdb_build_layout.specs.Bytes.{file_bytes}
use Rattle.ppdb_build_canon.{specs.Canon.{id_from}, proofs.Ids.{id_placed}}
use Rattle.sha2.specs.Sha256.{sha256}
use Rattle.ppdb_build_bytes.{specs.Drafts.{file_from, id_in}, proofs.Laid.{long_enough, refilled, placed}}
use Rattle.ppdb_build_bytes.proofs.layout.file_of.Goals as goal

pub set_id-requires : goal.set_id-requires
set_id-requires c =
    let zero = file_bytes (file_from (replicate 20 0) c.args.entry c.args.counts.now c.args.draft.now) in
    let whole : c.as_mut_slice.result.now ≡ zero = c.as_mut_slice.ensures.items ∙ c.in_ok-file-in-Hash.ensures in
    subst (λ bytes. 132 ≤ length bytes) (sym whole) (long_enough (replicate 20 0) c.args.entry c.args.counts.now c.args.draft.now (omega arith))

pub returns-in_ok-file-in-Hash : goal.returns-in_ok-file-in-Hash
returns-in_ok-file-in-Hash c =
    let raw = file_from (replicate 20 0) c.args.entry c.args.counts.now c.args.draft.now in
    let file = c.in_ok-file-in-Hash.file in
    let zero : file ≡ file_bytes raw = c.in_ok-file-in-Hash.ensures in
    let id : c.id_of-id.result ≡ id_from (sha256 (file_bytes raw)) =
    c.id_of-id.ensures.value ∙ ap (λ bytes. id_from (sha256 bytes)) (c.as_slice.ensures ∙ zero) in
    let put : c.set_id.new.file ≡ take 112 file ++ (c.id_of-id.result ++ drop 132 file) =
    c.set_id.ensures ∙ ap (λ bytes. take 112 bytes ++ (c.id_of-id.result ++ drop 132 bytes)) c.as_mut_slice.ensures.items in
    let long : 132 ≤ length file =
    subst (λ bytes. 132 ≤ length bytes) (sym zero) (long_enough (replicate 20 0) c.args.entry c.args.counts.now c.args.draft.now (omega arith)) in
    let same : length c.set_id.new.file ≡ length file = ap length put ∙ placed file c.id_of-id.result long c.id_of-id.ensures.long in
    refilled c.set_id.new.file file same
    ∙ put
    ∙ ap (λ bytes. take 112 bytes ++ (c.id_of-id.result ++ drop 132 bytes)) zero
    ∙ sym (id_placed raw c.id_of-id.result (omega arith) c.id_of-id.ensures.long)
    ∙ ap (λ now. file_bytes (file_from now c.args.entry c.args.counts.now c.args.draft.now)) id
    ∙ ap (λ choice. file_bytes (file_from (id_in choice c.args.kept.now c.args.entry c.args.counts.now c.args.draft.now) c.args.entry c.args.counts.now
    c.args.draft.now)) (sym c.in-Hash.is)
