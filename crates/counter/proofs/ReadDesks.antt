-- What the files say by which a desk answers.
use Rattle.std.proofs.Common.{◌≡◌, ℕ, List, [], Ok, None}
use Rattle.command_line.specs.declared.words.DeskWords.{DeskWords}
use Rattle.console.specs.Files.{ReadsIdentity, ReadsText, Source}
use Rattle.policy.specs.{Meaning.meaning_of, View.policy_view}
use Rattle.counter.specs.{Files.ReadsDesk, Files.SignsAs, Files.path_of, declared.files.Files.Files}

abbrev pub reads_desk : {S F : Type 0} (source : Source S F) (words : DeskWords) (files : Files)
    → (text : List ℕ) × ReadsText source words.rules.now (Ok text) × (meaning_of text ≡ Ok (policy_view files.policy))
    → ReadsIdentity source words.certificate.now (path_of words.chain) (Ok files.identity)
    → (words.chain ≡ None → files.identity.chain ≡ []) → SignsAs source words.signer files.signing
    → ReadsDesk source words
reads_desk source words files read identity alone signs = record {
  rules = read.0;
  rules_read = read.1;
  policy = policy_view files.policy;
  meant = read.2;
  identity = files.identity;
  identity_read = identity;
  alone = alone;
  signing = files.signing;
  signs = signs;
}
