use Rattle.std.proofs.Common.{◌≡◌, ◌+◌, ◌-◌, ◌==◌, ◌<◌, drop, length, slice_index, count_by, arith, sym, ap}
use Rattle.std.proofs.Common.{◌∙◌, subst, refl, length-drop}
use Rattle.std.proofs.lemmas.List.{take_all}
use Rattle.std.specs.Fmt.{is_char_start}
use Rattle.deno_graph_base.proofs.ByteCounts.{one_line, last_line, some_feed}
use Rattle.deno_graph_base.proofs.text.position.Position.after.Goals as goal

pub returns-then-feeds-eq0 : goal.returns-then-feeds-eq0
returns-then-feeds-eq0 c = λ front is.
    let bytes : c.as_bytes-bytes.result.now ≡ c.args.text.now = c.as_bytes-bytes.ensures.value in
    let count : c.from.result ≡ count_by is_char_start c.args.text.now =
    c.from.ensures ∙ c.characters.ensures ∙ ap (count_by is_char_start) bytes in
    let none : count_by (λ b. b == 10) c.args.text.now ≡ 0 =
    ap (count_by (λ b. b == 10)) (sym bytes) ∙ sym c.line_feeds-feeds.ensures.count ∙ c.if-feeds-eq0.true in
    one_line front c.args.text.now c.args.self _ c.utf8.text is none refl
    (ap (λ n. c.args.self.character + n) count)

pub returns : goal.returns
returns c = λ front is.
    let bytes : c.as_bytes-bytes.result.now ≡ c.args.text.now = c.as_bytes-bytes.ensures.value in
    let feeds = c.line_feeds-feeds.ensures in
    let end = c.line_feeds-feeds.result.end in
    let start = c.from-2.result in
    let lines : c.from-3.result ≡ count_by (λ b. b == 10) c.args.text.now =
    c.from-3.ensures ∙ feeds.count ∙ ap (count_by (λ b. b == 10)) bytes in
    let count : c.from-4.result ≡ count_by is_char_start (drop start c.args.text.now) =
    c.from-4.ensures ∙ c.characters-2.ensures
    ∙ ap (count_by is_char_start) (take_all (length c.as_bytes-bytes.result.now - start)
    (drop start c.as_bytes-bytes.result.now) (omega (arith, length-drop start c.as_bytes-bytes.result.now)))
    ∙ ap (λ bs. count_by is_char_start (drop start bs)) bytes in
    let some : 0 < end = some_feed c.as_bytes-bytes.result.now end feeds.after
    (omega (arith, feeds.count, c.if-feeds-eq0.false)) in
    let feed : slice_index c.args.text.now (start - 1) ≡ 10 =
    ap (λ n. slice_index c.args.text.now (n - 1)) c.from-2.ensures
    ∙ ap (λ bs. slice_index bs (end - 1)) (sym bytes) ∙ feeds.last some in
    last_line front c.args.text.now c.args.self _ start c.utf8.text is (omega (arith, c.from-2.ensures))
    (omega (arith, ap length bytes, c.from-2.ensures, feeds.bound)) feed
    (λ k from within. subst (λ bs. slice_index bs k ≡ 10 → ⊥) bytes
    (feeds.after k (omega (arith, c.from-2.ensures)) (omega (arith, within, ap length bytes))))
    (ap (λ n. c.args.self.line + n) lines) count
