use Rattle.std.proofs.Common.{◌≡◌, ◌<◌, ◌+◌, ◌-◌, ◌^◌, Err, ◌++◌, ◌∷◌, [], length, map, ℕ, List, refl, sym}
use Rattle.std.proofs.Common.{ap, subst, inl, inr, rules, arith, ◌∙◌, append_assoc}
use Rattle.std.proofs.lemmas.List.{length-append}
use Rattle.std.specs.Result.{OnOk}
use Rattle.json.specs.Json.{null, boolean, string, array, object}
use Rattle.json.specs.Token.{Token}
use Rattle.json.specs.Reads.{token_of}
use Rattle.deno_graph_json.specs.Flat.{plain, flat_list}
use Rattle.deno_graph_json.specs.internal.Parsing.{IsAhead, IsPut, NoneAhead}
use Rattle.deno_graph_json.specs.Flat as flat
use Rattle.deno_graph_json.specs.declared.flat.FlatNode.TheVariants as node
use Rattle.deno_graph_json.specs.declared.flat.error.TapeError.TheVariants.{Json}
use Rattle.deno_graph_json.proofs.ValueTokens.{put_one, put_number, none_number, none_deep_array}
use Rattle.deno_graph_json.proofs.ValueTokens.{none_deep_object, none_begins, no_array, ItemsPassed}
use Rattle.deno_graph_json.proofs.ValueTokens.{array_ahead, items_left_more, items_passed_more}
use Rattle.deno_graph_json.proofs.ValueTokens.{items_passed_all, MembersLeft, MembersPassed, no_object}
use Rattle.deno_graph_json.proofs.ValueTokens.{no_key_object, object_ahead, members_left_more}
use Rattle.deno_graph_json.proofs.ValueTokens.{members_passed_more, members_passed_all}
use Rattle.deno_graph_json.proofs.Nested.{filled, room_taken, has_more, begun, with_ok, some_node}
use Rattle.deno_graph_json.proofs.Nested.{is_end_array, is_end_object, is_key}
use Rattle.deno_graph_json.proofs.flat.parse.Parser.+read.Goals as goal

pub value-returns-in_err-push-in-String : goal.value-returns-in_err-push-in-String
value-returns-in_err-push-in-String t c =
    record { put = search rules; none = search rules; shorter = search rules }

pub value-returns-in_err-push-in-Bool : goal.value-returns-in_err-push-in-Bool
value-returns-in_err-push-in-Bool t c =
    record { put = search rules; none = search rules; shorter = search rules }

pub value-returns-in_err-push-in-Null : goal.value-returns-in_err-push-in-Null
value-returns-in_err-push-in-Null t c =
    record { put = search rules; none = search rules; shorter = search rules }

pub value-returns-in_ok-push-in-String-clause-put : goal.value-returns-in_ok-push-in-String-clause-put
value-returns-in_ok-push-in-String-clause-put t c =
    let s = c.in-String.text in
    let ts = c.args.self.now.reader in
    let put = put_one c.args.depth (Token.string s.now) ts (string s.now) c.args.self.now.nodes.items
    c.push.new.self.items (node.String s)
    refl refl refl c.in_ok-push-in-String.ensures.items refl in
    subst (λ k. IsPut c.args.depth (token_of k ∷ ts) ts c.args.self.now.nodes.items c.push.new.self.items)
    (sym c.in-String.is) put

pub value-returns-in_ok-push-in-Bool-clause-put : goal.value-returns-in_ok-push-in-Bool-clause-put
value-returns-in_ok-push-in-Bool-clause-put t c =
    let b = c.in-Bool.value in
    let ts = c.args.self.now.reader in
    let put = put_one c.args.depth (Token.boolean b) ts (boolean b) c.args.self.now.nodes.items
    c.push-in-Bool.new.self.items (node.Bool b)
    refl refl refl c.in_ok-push-in-Bool.ensures.items refl in
    subst (λ k. IsPut c.args.depth (token_of k ∷ ts) ts c.args.self.now.nodes.items
    c.push-in-Bool.new.self.items) (sym c.in-Bool.is) put

pub value-returns-in_ok-push-in-Null-clause-put : goal.value-returns-in_ok-push-in-Null-clause-put
value-returns-in_ok-push-in-Null-clause-put t c =
    let ts = c.args.self.now.reader in
    let put = put_one c.args.depth Token.null ts null c.args.self.now.nodes.items
    c.push-in-Null.new.self.items node.Null
    refl refl refl c.in_ok-push-in-Null.ensures.items refl in
    subst (λ k. IsPut c.args.depth (token_of k ∷ ts) ts c.args.self.now.nodes.items
    c.push-in-Null.new.self.items) (sym c.in-Null.is) put

pub value-returns-in-Number-clause-put : goal.value-returns-in-Number-clause-put
value-returns-in-Number-clause-put t c =
    let text = c.in-Number.digits.now in
    let ts = c.args.self.now.reader in
    let new = c.number.new.self in
    let put = with_ok c.number.result _ _
    (IsPut c.args.depth (Token.number text ∷ ts) new.reader c.args.self.now.nodes.items new.nodes.items)
    (put_number c.args.depth text ts new.reader c.args.self.now.nodes.items new.nodes.items
    c.number.ensures.reader)
    c.number.ensures.nodes c.number.ensures.fits in
    subst (λ k. OnOk c.number.result
    (IsPut c.args.depth (token_of k ∷ ts) new.reader c.args.self.now.nodes.items new.nodes.items))
    (sym c.in-Number.is) put

pub value-returns-in-Number-clause-none : goal.value-returns-in-Number-clause-none
value-returns-in-Number-clause-none t c offset e =
    let text = c.in-Number.digits.now in
    let ts = c.args.self.now.reader in
    subst (λ k. NoneAhead c.args.depth (token_of k ∷ ts)) (sym c.in-Number.is)
    (none_number c.args.depth text ts (c.number.ensures.large offset e))

pub value-returns-in-EndArray-clause-none : goal.value-returns-in-EndArray-clause-none
value-returns-in-EndArray-clause-none t c offset e =
    let ts = c.args.self.now.reader in
    let d = c.args.depth in
    elim c.in-EndArray.is [
      | inl is ↦ none_begins d (token_of c.args.first ∷ ts) (rw is)
      | inr others ↦
          elim others [
            | inl is ↦ none_begins d (token_of c.args.first ∷ ts) (rw is)
            | inr more ↦
                elim more [
                  | inl is ↦ none_begins d (token_of c.args.first ∷ ts) (rw is.1)
                  | inr is ↦
                      none_begins d (token_of c.args.first ∷ ts) (rw is)
                ]
          ]
    ]

pub value-returns-in-BeginArray-2-clause-none : goal.value-returns-in-BeginArray-2-clause-none
value-returns-in-BeginArray-2-clause-none t c offset e =
    let ts = c.args.self.now.reader in
    let none : c.args.depth ≡ 0 = omega arith in
    rw (none, c.in-BeginArray.is) (none_deep_array ts)

pub value-returns-in-BeginArray-2-2-clause-none : goal.value-returns-in-BeginArray-2-2-clause-none
value-returns-in-BeginArray-2-2-clause-none t c offset e =
    let ts = c.args.self.now.reader in
    let none : c.args.depth ≡ 0 = omega arith in
    rw (none, c.in-BeginObject.is) (none_deep_object ts)

pub array-returns-in_err-push : goal.array-returns-in_err-push
array-returns-in_err-push t c = record { put = search rules; none = search rules; shorter = search rules }

pub array-returns-in_err-first-clause-none : goal.array-returns-in_err-first-clause-none
array-returns-in_err-first-clause-none t c offset e =
    let l = c.elements in
    let ended : l.self.reader ≡ [] = c.in_err-first.ensures.end in
    no_array c.args.depth c.args.self.now.reader l.self.reader l.invariant.3
    (rw ended (none_begins c.args.depth [] refl)) (λ r is. absurd (cc))

pub array-returns-in_err-value-in_default : goal.array-returns-in_err-value-in_default
array-returns-in_err-value-in_default t c =
    let l = c.elements in
    let token = c.in_ok-first.ensures.token in
    let ended : (r : List Token) → l.self.reader ≡ Token.end_array ∷ r → ⊥ =
    λ r is. c.in_default.not-EndArray (is_end_array c.in_ok-first.first (cc (sym token ∙ is))) in
    record {
      put = search rules;
      none = λ offset e. let json : c.value.result ≡ Err (Json offset) = search rules in
          no_array c.args.depth c.args.self.now.reader l.self.reader l.invariant.3
          (subst (NoneAhead c.args.depth) (sym token) (c.value.ensures.none offset json)) ended;
      shorter = search rules;
    }

pub array-elements-preserved : goal.array-elements-preserved
array-elements-preserved t c =
    let l = c.elements in
    let d = c.args.depth in
    let start = c.args.self.now in
    let new = c.value.new.self in
    let put = c.in_ok-value-in_default.ensures.put in
    let inside = l.invariant.2 in
    let token = c.in_ok-first.ensures.token in
    let ahead : IsAhead d put.0 l.self.reader new.reader =
    subst (λ ts. IsAhead d put.0 ts new.reader) (sym token) put.1 in
    let same : c.token.new.self.nodes ≡ l.self.nodes = c.token.ensures.same in
    let grown : map plain new.nodes.items ≡ map plain l.self.nodes.items ++ flat_list put.0 =
    put.2 ∙ ap (λ ns. map plain ns.items ++ flat_list put.0) same in
    let more = has_more start.nodes.items l.self.nodes.items (flat.array 0 0) inside.0 inside.1
    new.nodes.items (flat_list put.0) grown in
    let taken = room_taken start.nodes.items new.nodes.items (flat.array 0 0) (inside.0 ++ flat_list put.0)
    more in
    let few : length new.nodes.items < 2 ^ 64 = omega arith in
    let many : c.saturating_add-elements.result ≡ l.elements + 1 =
    omega (
      arith,
      c.saturating_add-elements.ensures,
      inside.2,
      taken,
      length-append inside.0 (flat_list put.0),
      some_node put.0,
    ) in (
      omega (arith, c.in_ok-value-in_default.ensures.shorter, c.in_ok-first.ensures.shorter, l.invariant.0),
      l.invariant.1,
      (
        inside.0 ++ flat_list put.0,
        more,
        omega (arith, many, inside.2, length-append inside.0 (flat_list put.0), some_node put.0),
        subst (ItemsPassed d start.reader new.reader (inside.0 ++ flat_list put.0)) (sym many)
            (items_passed_more d put.0 start.reader l.self.reader new.reader inside.0 l.elements inside.3
            ahead),
      ),
      items_left_more d put.0 start.reader l.self.reader new.reader l.invariant.3 ahead,
    )

pub array-returns-clause-put : goal.array-returns-clause-put
array-returns-clause-put t c =
    let l = c.elements in
    let d = c.args.depth in
    let start = c.args.self.now in
    let inside = l.invariant.2 in
    let rest = c.token.new.self.reader in
    let token : l.self.reader ≡ Token.end_array ∷ rest =
    c.in_ok-first.ensures.token ∙ ap (λ k. token_of k ∷ rest) c.in-EndArray.is in
    let same : c.token.new.self.nodes ≡ l.self.nodes = c.token.ensures.same in
    let now = c.token.new.self.nodes.items in
    let has : map plain now ≡ map plain start.nodes.items ++ flat.array 0 0 ∷ inside.0 =
    ap (λ ns. map plain ns.items) same ∙ inside.1 in
    let all = items_passed_all d start.reader rest inside.0 l.elements
    (subst (λ ts. ItemsPassed d start.reader ts inside.0 l.elements) token inside.3) in
    let taken = room_taken start.nodes.items now (flat.array 0 0) inside.0 has in
    let nodes : c.len.result - c.len-at.result - 1 ≡ length inside.0 =
    omega (arith, c.len.ensures, c.len-at.ensures, taken, c.token.new.self.nodes.ok.0) in
    let node = node.Array l.elements (c.len.result - c.len-at.result - 1) in
    let listed : plain node ∷ inside.0 ≡ flat_list (array all.0) = rw (nodes, all.2, all.3) in (
      array all.0,
      array_ahead d all.0 start.reader rest all.1,
      filled start.nodes.items now (flat.array 0 0) inside.0 has c.len-at.result node l.invariant.1
          ∙ ap (λ ns. map plain start.nodes.items ++ ns) listed,
    )

pub object-returns-in_err-push : goal.object-returns-in_err-push
object-returns-in_err-push t c = record { put = search rules; none = search rules; shorter = search rules }

pub object-returns-in_err-push-in-Key : goal.object-returns-in_err-push-in-Key
object-returns-in_err-push-in-Key t c =
    record { put = search rules; none = search rules; shorter = search rules }

pub object-returns-in_err-name-clause-none : goal.object-returns-in_err-name-clause-none
object-returns-in_err-name-clause-none t c offset e =
    let l = c.members in
    let ended : l.self.reader ≡ [] = c.in_err-name.ensures.end in
    no_key_object c.args.depth c.args.self.now.reader l.self.reader l.invariant.3 (λ k r is. absurd (cc))
    (λ r is. absurd (cc))

pub object-returns-in_default : goal.object-returns-in_default
object-returns-in_default t c =
    let l = c.members in
    let token = c.in_ok-name.ensures.token in
    let no_key : (k : List ℕ) (r : List Token) → l.self.reader ≡ Token.key k ∷ r → ⊥ =
    λ k r is. let key =
    is_key c.in_ok-name.field-0 k (cc (sym token ∙ is)) in c.in_default.not-Key key.0 key.1 in
    let no_end : (r : List Token) → l.self.reader ≡ Token.end_object ∷ r → ⊥ =
    λ r is. c.in_default.not-EndObject (is_end_object c.in_ok-name.field-0 (cc (sym token ∙ is))) in
    record {
      put = search rules;
      none = λ offset e. no_key_object c.args.depth c.args.self.now.reader l.self.reader l.invariant.3 no_key
          no_end;
      shorter = search rules;
    }

pub object-returns-in_err-first-clause-none : goal.object-returns-in_err-first-clause-none
object-returns-in_err-first-clause-none t c offset e =
    let l = c.members in
    let d = c.args.depth in
    let name = c.in-Key.name.now in
    let rest = c.token.new.self.reader in
    let token : l.self.reader ≡ Token.key name ∷ rest =
    c.in_ok-name.ensures.token ∙ ap (λ k. token_of k ∷ rest) c.in-Key.is in
    let ended : rest ≡ [] = c.in_err-first.ensures.end in
    no_object d name c.args.self.now.reader rest
    (subst (MembersLeft d c.args.self.now.reader) token l.invariant.3)
    (subst (NoneAhead d) (sym ended) (none_begins d [] refl))

pub object-returns-in_err-value-clause-none : goal.object-returns-in_err-value-clause-none
object-returns-in_err-value-clause-none t c offset e =
    let l = c.members in
    let d = c.args.depth in
    let name = c.in-Key.name.now in
    let rest = c.token.new.self.reader in
    let token : l.self.reader ≡ Token.key name ∷ rest =
    c.in_ok-name.ensures.token ∙ ap (λ k. token_of k ∷ rest) c.in-Key.is in
    let json : c.value.result ≡ Err (Json offset) = search rules in
    no_object d name c.args.self.now.reader rest
    (subst (MembersLeft d c.args.self.now.reader) token l.invariant.3)
    (subst (NoneAhead d) (sym c.in_ok-first.ensures.token) (c.value.ensures.none offset json))

pub object-members-preserved : goal.object-members-preserved
object-members-preserved t c =
    let l = c.members in
    let d = c.args.depth in
    let start = c.args.self.now in
    let new = c.value.new.self in
    let name = c.in-Key.name.now in
    let rest = c.token.new.self.reader in
    let token : l.self.reader ≡ Token.key name ∷ rest =
    c.in_ok-name.ensures.token ∙ ap (λ k. token_of k ∷ rest) c.in-Key.is in
    let put = c.in_ok-value.ensures.put in
    let inside = l.invariant.2 in
    let ahead : IsAhead d put.0 rest new.reader =
    subst (λ ts. IsAhead d put.0 ts new.reader) (sym c.in_ok-first.ensures.token) put.1 in
    let same : c.token.new.self.nodes ≡ l.self.nodes = c.token.ensures.same in
    let named_nodes = c.push-in-Key.new.self.items in
    let named : map plain named_nodes ≡ map plain l.self.nodes.items ++ flat.key name ∷ [] =
    begun l.self.nodes.items named_nodes (node.Key c.in-Key.name)
    (c.in_ok-push-in-Key.ensures.items ∙ ap (λ ns. ns.items ++ node.Key c.in-Key.name ∷ []) same) in
    let kept : c.token-in-members.new.self.nodes.items ≡ named_nodes =
    ap (λ ns. ns.items) c.token-in-members.ensures.same in
    let grown : map plain new.nodes.items ≡ map plain l.self.nodes.items ++ flat.key name ∷ flat_list put.0 =
    put.2 ∙ ap (λ ns. map plain ns ++ flat_list put.0) kept ∙ ap (λ ns. ns ++ flat_list put.0) named
    ∙ append_assoc (map plain l.self.nodes.items) (flat.key name ∷ []) (flat_list put.0) in (
      omega (
        arith,
        c.in_ok-value.ensures.shorter,
        c.in_ok-first.ensures.shorter,
        c.in_ok-name.ensures.shorter,
        l.invariant.0,
      ),
      l.invariant.1,
      (
        inside.0 ++ flat.key name ∷ flat_list put.0,
        has_more start.nodes.items l.self.nodes.items (flat.object 0) inside.0 inside.1 new.nodes.items
            (flat.key name ∷ flat_list put.0) grown,
        members_passed_more d name put.0 start.reader rest new.reader inside.0
            (subst (λ ts. MembersPassed d start.reader ts inside.0) token inside.2) ahead,
      ),
      members_left_more d name put.0 start.reader rest new.reader
          (subst (MembersLeft d start.reader) token l.invariant.3) ahead,
    )

pub object-returns-clause-put : goal.object-returns-clause-put
object-returns-clause-put t c =
    let l = c.members in
    let d = c.args.depth in
    let start = c.args.self.now in
    let inside = l.invariant.2 in
    let rest = c.token.new.self.reader in
    let token : l.self.reader ≡ Token.end_object ∷ rest =
    c.in_ok-name.ensures.token ∙ ap (λ k. token_of k ∷ rest) c.in-EndObject.is in
    let same : c.token.new.self.nodes ≡ l.self.nodes = c.token.ensures.same in
    let now = c.token.new.self.nodes.items in
    let has : map plain now ≡ map plain start.nodes.items ++ flat.object 0 ∷ inside.0 =
    ap (λ ns. map plain ns.items) same ∙ inside.1 in
    let all = members_passed_all d start.reader rest inside.0
    (subst (λ ts. MembersPassed d start.reader ts inside.0) token inside.2) in
    let taken = room_taken start.nodes.items now (flat.object 0) inside.0 has in
    let nodes : c.len.result - c.len-at.result - 1 ≡ length inside.0 =
    omega (arith, c.len.ensures, c.len-at.ensures, taken, c.token.new.self.nodes.ok.0) in
    let node = node.Object (c.len.result - c.len-at.result - 1) in
    let listed : plain node ∷ inside.0 ≡ flat_list (object all.0) = rw (nodes, all.2) in (
      object all.0,
      object_ahead d all.0 start.reader rest all.1,
      filled start.nodes.items now (flat.object 0) inside.0 has c.len-at.result node l.invariant.1
          ∙ ap (λ ns. map plain start.nodes.items ++ ns) listed,
    )
