-- What a parsed head says of the bytes as a whole.
use Rattle.std.proofs.Common.{◌≡◌, ℕ, ◌≤◌, List, [], length, take, drop, sym, ap, ◌∙◌, subst, append-nil, arith}
use Rattle.std.proofs.lemmas.List.{length-map, length-take-le}
use Rattle.std.proofs.Math.Seq.{drop-length}
use Rattle.httparse.specs.declared.spans.HeaderSpan.{HeaderSpan}
use Rattle.httparse.specs.declared.spans.ResponseSpans.{ResponseSpans}
use Rattle.httparse.specs.Grammar.{ResponseHead, ReadsResponse, print_response, status_code}
use Rattle.httparse.specs.Spans.{IsResponseAt, IsResponseOf, IsResponseWithin, header_bytes, name_and_value}
use Rattle.tunnel_port.specs.ConnectReplies.{HasHead}

-- spans that reach to the end are those of a head that is the whole
pub found_head : (bytes : List ℕ) (headers : List HeaderSpan) (spans : ResponseSpans) → length headers ≡ 64 → spans.len ≡ length bytes → IsResponseWithin bytes headers spans → IsResponseOf bytes headers spans → HasHead bytes (λ h. status_code h ≡ spans.code)
found_head bytes headers spans room whole within (h, at) =
    let nothing : drop spans.len bytes ≡ [] = ap (λ n. drop n bytes) whole ∙ drop-length bytes in
    let reads : ReadsResponse bytes h [] = subst (ReadsResponse bytes h) nothing at.reads in
    let counted : length (take spans.headers headers) ≡ length h.fields = sym (length-map (take spans.headers headers) (header_bytes bytes)) ∙ ap length at.fields ∙ length-map h.fields name_and_value in
    let short : length (take spans.headers headers) ≡ spans.headers = length-take-le spans.headers headers within.section.count_fits in
    let fits : spans.headers ≤ length headers = within.section.count_fits in
    (h, reads, omega arith, sym at.code)

-- a head that is the whole reaches to the end
pub other_length : (bytes : List ℕ) (headers : List HeaderSpan) (spans : ResponseSpans) (h : ResponseHead) → ReadsResponse bytes h [] → IsResponseAt bytes headers spans h → spans.len ≡ length bytes
other_length bytes headers spans h reads at = at.len ∙ sym (ap length (reads.1 ∙ append-nil (print_response h)))
