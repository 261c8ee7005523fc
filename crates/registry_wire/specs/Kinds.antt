-- Texts as slugs, keys, titles, links, times and digests.
use Rattle.std.specs.Prelude.{ℕ, ◌||◌, nat_le, List, length, bytes_eq, codes, Option, Some, None, Result, Ok, Err, if◌then◌else◌}
use Rattle.url.specs.Parser.{parse_url}
use Rattle.url.specs.Parts.{Parts, serialize}
use Rattle.url.specs.declared.error.ParseError.{ParseError}
use Rattle.registry_wire.specs.Decisions.{slug_or_not, key_or_not, title_or_not, link_or_not, time_or_not, digest_or_not}

-- the text, if the decided property holds
abbrev pub where_it_holds : {P : Type 0} → Dec P → List ℕ → Option (List ℕ)
where_it_holds (yes holds) text = Some text
where_it_holds (no fails) text = None

-- the text as a slug, a key or a title, if it is one
unfoldable pub slug_of : List ℕ → Option (List ℕ)
slug_of text = where_it_holds (slug_or_not text) text

unfoldable pub key_of : List ℕ → Option (List ℕ)
key_of text = where_it_holds (key_or_not text) text

unfoldable pub title_of : List ℕ → Option (List ℕ)
title_of text = where_it_holds (title_or_not text) text

-- the text as a time, if it is one
unfoldable pub time_of : List ℕ → Option (List ℕ)
time_of text = where_it_holds (time_or_not text) text

-- the text as a digest, if it is one
unfoldable pub kept_digest : List ℕ → Option (List ℕ)
kept_digest text = where_it_holds (digest_or_not text) text

-- the text as a link, if it is one
unfoldable pub kept_link : List ℕ → Option (List ℕ)
kept_link text = where_it_holds (link_or_not text) text

-- an HTTP or HTTPS URL as a link: the URL's own text, if that is a link
unfoldable pub web_address : Parts → Option (List ℕ)
web_address url =
    if bytes_eq url.scheme (codes "http") || bytes_eq url.scheme (codes "https")
    then where_it_holds (link_or_not (serialize url)) (serialize url)
    else None

abbrev pub link_of_parsed : Result Parts ParseError → Option (List ℕ)
link_of_parsed (Ok url) = web_address url
link_of_parsed (Err e) = None

-- the link of a text of at most 4,096 bytes, which is read as a URL
unfoldable pub link_of : List ℕ → Option (List ℕ)
link_of text = if nat_le (length text) 4096 then link_of_parsed (parse_url None text) else None
