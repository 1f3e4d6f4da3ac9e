use Rattle.std.proofs.{Common.{◌≡◌, ◌+◌, [], ◌∷◌, refl, ap, ◌∙◌, arith}, lemmas.Bool.{iff_false}, lemmas.Result.{err_from_is_err_and}}
use Rattle.metadata_root.{specs.Fields.{number_at}, specs.Root.{version_len}, proofs.FirstOfPrefix.{windows_is_first, not_metadata_is_first, prefix_is_first}}
use Rattle.metadata_root.proofs.FirstOfPrefix.{begins_len, first_header}
use Rattle.metadata_root.proofs.root.read_prefix.Goals as goal

pub returns-then-begins_with-clause-first : goal.returns-then-begins_with-clause-first
returns-then-begins_with-clause-first c =
    windows_is_first c.args.bytes.now c.root_fault.result c.root_fault.ensures (c.begins_with.ensures.0 c.if-begins_with.true)

pub returns-then-not-begins_with-clause-first : goal.returns-then-not-begins_with-clause-first
returns-then-not-begins_with-clause-first c =
    not_metadata_is_first c.args.bytes.now c.root_fault-then-not-begins_with.result c.root_fault-then-not-begins_with.ensures
    (iff_false c.begins_with-2.ensures c.if-not-begins_with.true) (iff_false c.begins_with.ensures c.if-begins_with.false)

pub returns-in_err-minor-clause-first : goal.returns-in_err-minor-clause-first
returns-in_err-minor-clause-first c =
    let p = err_from_is_err_and c.from_residual.result c.from_residual.ensures.1 in
    let t = c.in_err-minor.ensures.truncated in
    rw (p.1, p.2) (prefix_is_first c.args.bytes.now c.in_err-minor.field-0.0 (c.begins_with-2.ensures.0 c.if-not-begins_with.false) 4 (2) (4 ∷ [])
    (2 ∷ 4 ∷ 4 ∷ version_len c.args.bytes.now ∷ 2 ∷ 2 ∷ []) refl (omega (arith))
    (begins_len c.args.bytes.now (c.begins_with-2.ensures.0 c.if-not-begins_with.false)) t)

pub returns-in_err-reserved-clause-first : goal.returns-in_err-reserved-clause-first
returns-in_err-reserved-clause-first c =
    let p = err_from_is_err_and c.from_residual-in_err-reserved.result c.from_residual-in_err-reserved.ensures.1 in
    let t = c.in_err-reserved.ensures.truncated in
    let minor = c.in_ok-minor.ensures.end in
    rw (p.1, p.2) (prefix_is_first c.args.bytes.now c.in_err-reserved.field-0.0 (c.begins_with-2.ensures.0 c.if-not-begins_with.false) c.in_ok-minor.minor (2)
    (4 ∷ 2 ∷ []) (4 ∷ 4 ∷ version_len c.args.bytes.now ∷ 2 ∷ 2 ∷ []) refl (omega (arith, minor.0)) (minor.1) t)

pub returns-in_err-len-clause-first : goal.returns-in_err-len-clause-first
returns-in_err-len-clause-first c =
    let p = err_from_is_err_and c.from_residual-in_err-len.result c.from_residual-in_err-len.ensures.1 in
    let t = c.in_err-len.ensures.truncated in
    let minor = c.in_ok-minor.ensures.end in
    let reserved = c.in_ok-reserved.ensures.end in
    rw (p.1, p.2) (prefix_is_first c.args.bytes.now c.in_err-len.field-0.0 (c.begins_with-2.ensures.0 c.if-not-begins_with.false) c.in_ok-reserved.reserved (4)
    (4 ∷ 2 ∷ 2 ∷ []) (4 ∷ version_len c.args.bytes.now ∷ 2 ∷ 2 ∷ []) refl (omega (arith, minor.0, reserved.0)) (reserved.1) t)

pub returns-in_err-version-clause-first : goal.returns-in_err-version-clause-first
returns-in_err-version-clause-first c =
    let p = err_from_is_err_and c.from_residual-in_err-version.result c.from_residual-in_err-version.ensures.1 in
    let t = c.in_err-version.ensures.truncated in
    let minor = c.in_ok-minor.ensures.end in
    let reserved = c.in_ok-reserved.ensures.end in
    let len = c.in_ok-len.ensures.end in
    rw (p.1, p.2) (prefix_is_first c.args.bytes.now c.in_err-version.field-0.0 (c.begins_with-2.ensures.0 c.if-not-begins_with.false) c.in_ok-len.len (4)
    (4 ∷ 2 ∷ 2 ∷ 4 ∷ []) (version_len c.args.bytes.now ∷ 2 ∷ 2 ∷ []) refl (omega (arith, minor.0, reserved.0, len.0)) (len.1) t)

pub returns-in_err-flags-clause-first : goal.returns-in_err-flags-clause-first
returns-in_err-flags-clause-first c =
    let p = err_from_is_err_and c.from_residual-in_err-flags.result c.from_residual-in_err-flags.ensures.1 in
    let t = c.in_err-flags.ensures.truncated in
    let minor = c.in_ok-minor.ensures.end in
    let reserved = c.in_ok-reserved.ensures.end in
    let len = c.in_ok-len.ensures.end in
    let version = c.in_ok-version.ensures.end in
    let version_is : c.u32_at.result ≡ version_len c.args.bytes.now =
    c.u32_at.ensures ∙ ap (λ p. number_at c.args.bytes.now p 4) (let p : c.in_ok-len.len ≡ 12 = omega (arith, minor.0, reserved.0, len.0) in p) in
    rw (p.1, p.2) (prefix_is_first c.args.bytes.now c.in_err-flags.field-0.0 (c.begins_with-2.ensures.0 c.if-not-begins_with.false) c.in_ok-version.version
    (version_len c.args.bytes.now) (4 ∷ 2 ∷ 2 ∷ 4 ∷ 4 ∷ []) (2 ∷ 2 ∷ []) refl (omega (arith, minor.0, reserved.0, len.0, version.0)) (version.1)
    (t.0, omega (arith, t.1, version_is)))

pub returns-in_err-streams-clause-first : goal.returns-in_err-streams-clause-first
returns-in_err-streams-clause-first c =
    let p = err_from_is_err_and c.from_residual-in_err-streams.result c.from_residual-in_err-streams.ensures.1 in
    let t = c.in_err-streams.ensures.truncated in
    let minor = c.in_ok-minor.ensures.end in
    let reserved = c.in_ok-reserved.ensures.end in
    let len = c.in_ok-len.ensures.end in
    let version = c.in_ok-version.ensures.end in
    let flags = c.in_ok-flags.ensures.end in
    let version_is : c.u32_at.result ≡ version_len c.args.bytes.now =
    c.u32_at.ensures ∙ ap (λ p. number_at c.args.bytes.now p 4) (let p : c.in_ok-len.len ≡ 12 = omega (arith, minor.0, reserved.0, len.0) in p) in
    rw (p.1, p.2) (prefix_is_first c.args.bytes.now c.in_err-streams.field-0.0 (c.begins_with-2.ensures.0 c.if-not-begins_with.false) c.in_ok-flags.flags (2)
    (4 ∷ 2 ∷ 2 ∷ 4 ∷ 4 ∷ version_len c.args.bytes.now ∷ []) (2 ∷ []) refl (omega (arith, minor.0, reserved.0, len.0, version.0, flags.0, version_is))
    (flags.1) t)

pub returns-in_err-headers-clause-first : goal.returns-in_err-headers-clause-first
returns-in_err-headers-clause-first c =
    let p = err_from_is_err_and c.from_residual-in_err-headers.result c.from_residual-in_err-headers.ensures.1 in
    let t = c.in_err-headers.ensures.truncated in
    let minor = c.in_ok-minor.ensures.end in
    let reserved = c.in_ok-reserved.ensures.end in
    let len = c.in_ok-len.ensures.end in
    let version = c.in_ok-version.ensures.end in
    let flags = c.in_ok-flags.ensures.end in
    let streams = c.in_ok-streams.ensures.end in
    let version_is : c.u32_at.result ≡ version_len c.args.bytes.now =
    c.u32_at.ensures ∙ ap (λ p. number_at c.args.bytes.now p 4) (let p : c.in_ok-len.len ≡ 12 = omega (arith, minor.0, reserved.0, len.0) in p) in
    rw (p.1, p.2) (prefix_is_first c.args.bytes.now c.in_err-headers.field-0.0 (c.begins_with-2.ensures.0 c.if-not-begins_with.false) c.in_ok-streams.streams (2)
    (4 ∷ 2 ∷ 2 ∷ 4 ∷ 4 ∷ version_len c.args.bytes.now ∷ 2 ∷ [])
    ([]) refl (omega (arith, minor.0, reserved.0, len.0, version.0, flags.0, streams.0, version_is)) (streams.1) t)

pub returns-clause-prefix : goal.returns-clause-prefix
returns-clause-prefix c =
    let file = c.args.bytes.now in
    let minor = c.in_ok-minor.ensures.end in
    let reserved = c.in_ok-reserved.ensures.end in
    let len = c.in_ok-len.ensures.end in
    let version = c.in_ok-version.ensures.end in
    let flags = c.in_ok-flags.ensures.end in
    let streams = c.in_ok-streams.ensures.end in
    let headers = c.in_ok-headers.ensures.end in
    let len_is : c.in_ok-len.len ≡ 12 = omega (arith, minor.0, reserved.0, len.0) in
    let version_is : c.u32_at.result ≡ version_len file = c.u32_at.ensures ∙ ap (λ p. number_at file p 4) len_is in
    let streams_is : c.in_ok-streams.streams ≡ 18 + version_len file = omega (arith, len_is, version.0, flags.0, version_is, streams.0) in
    record {
      signed = c.begins_with-2.ensures.0 c.if-not-begins_with.false;
      begins = omega (arith, headers.0, streams_is, first_header file);
      fits = headers.1;
      counted = c.u16_at.ensures ∙ ap (λ p. number_at file p 2) streams_is;
    }
