-- The errors of the URL parser as errors of a document.
use Rattle.std.proofs.Common.{◌≡◌, ◌≢◌, ◌⊎◌, inl, inr, ℕ, List, None, Err, refl, sym, ap, subst, ◌∙◌}
use Rattle.url.specs.Parser.{IsOutOfRoom, parse_url}
use Rattle.url.specs.declared.error.ParseError.{ParseError}
use Rattle.url.specs.declared.error.ParseError.TheVariants as url
use Rattle.modinfo_document.specs.Document.{IsNoSource, IsNoUrl}
use Rattle.modinfo_document.specs.Error.{of_url}
use Rattle.modinfo_document.specs.declared.document.Document.{Document}
use Rattle.modinfo_document.specs.declared.error.DocumentError.{DocumentError}
use Rattle.modinfo_document.specs.declared.error.DocumentError.TheVariants.{OutOfMemory, Specifier}

-- An error of the URL parser is one of two errors of a document.
of_url_is : (error : ParseError) → (of_url error ≡ OutOfMemory) ⊎ (of_url error ≡ Specifier)
of_url_is url.Overflow = inl refl
of_url_is url.OutOfMemory = inl refl
of_url_is url.EmptyHost = inr refl
of_url_is url.IdnaError = inr refl
of_url_is url.InvalidPort = inr refl
of_url_is url.InvalidIpv4Address = inr refl
of_url_is url.InvalidIpv6Address = inr refl
of_url_is url.InvalidDomainCharacter = inr refl
of_url_is url.RelativeUrlWithoutBase = inr refl
of_url_is url.RelativeUrlWithCannotBeABaseBase = inr refl
of_url_is url.SetHostOnCannotBeABaseUrl = inr refl
of_url_is url.CannotSet = inr refl

memory_apart : OutOfMemory ≢ Specifier
memory_apart same = cc (same)

-- A property of a failed allocation, and of a specifier that is no URL.
module _ (P : DocumentError → Type 0) (specifier : List ℕ) (error : ParseError) (memory : P OutOfMemory)
    (unparsed : ((found : ParseError) × (parse_url None specifier ≡ Err found)) → P Specifier) where
  by_error : ((parse_url None specifier ≡ Err error) ⊎ IsOutOfRoom error)
      → ((of_url error ≡ OutOfMemory) ⊎ (of_url error ≡ Specifier)) → P (of_url error)
  by_error why (inl is) = subst P (sym is) memory
  by_error (inl none) (inr is) = subst P (sym is) (unparsed (error, none))
  by_error (inr (inl room)) (inr is) = absurd (memory_apart (sym (ap of_url room) ∙ is))
  by_error (inr (inr room)) (inr is) = absurd (memory_apart (sym (ap of_url room) ∙ is))

  pub by_url : ((parse_url None specifier ≡ Err error) ⊎ IsOutOfRoom error) → P (of_url error)
  by_url why = by_error why (of_url_is error)

-- The document has no URL, or an allocation failed.
pub no_url : (document : Document) (error : ParseError)
    → ((parse_url None document.specifier ≡ Err error) ⊎ IsOutOfRoom error)
    → IsNoUrl document (of_url error)
no_url document error why = by_url (IsNoUrl document) document.specifier error tt (λ none. none) why

-- The error is one of the document, or an allocation failed.
pub no_source : (document : Document) (error : ParseError)
    → ((parse_url None document.specifier ≡ Err error) ⊎ IsOutOfRoom error)
    → IsNoSource document (of_url error)
no_source document error why =
    by_url (IsNoSource document) document.specifier error tt (λ none. none) why
