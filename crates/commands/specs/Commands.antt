-- Commands, oracles and options by their words. Assumes nothing.
use Rattle.std.specs.Prelude.{cond, List, ℕ}
use Rattle.model.specs.Lists.{same_list}
use Rattle.model.specs.Text.{bytes}
use Rattle.commands.specs.declared.command.Command.{Command}
use Rattle.commands.specs.declared.command.Command.TheVariants as command
use Rattle.commands.specs.declared.command.OracleWord.{OracleWord}
use Rattle.commands.specs.declared.command.OracleWord.TheVariants as oracle
use Rattle.commands.specs.declared.command.OptionWord.{OptionWord}
use Rattle.commands.specs.declared.command.OptionWord.TheVariants as option

unfoldable pub command_in : List ℕ → Command
command_in w =
    cond (same_list w (bytes "check")) command.Check
    (cond (same_list w (bytes "list")) command.List
    (cond (same_list w (bytes "cells")) command.Cells
    (cond (same_list w (bytes "play")) command.Play
    (cond (same_list w (bytes "balance")) command.Balance
    (cond (same_list w (bytes "split")) command.Split
    (cond (same_list w (bytes "add")) command.Add
    (cond (same_list w (bytes "help")) command.Help command.Unknown)))))))

unfoldable pub oracle_word_in : List ℕ → OracleWord
oracle_word_in w =
    cond (same_list w (bytes "all")) oracle.All
    (cond (same_list w (bytes "box")) oracle.Box
    (cond (same_list w (bytes "plane")) oracle.Plane oracle.Unknown))

unfoldable pub option_word_in : List ℕ → OptionWord
option_word_in w =
    cond (same_list w (bytes "--dry-run")) option.DryRun
    (cond (same_list w (bytes "--all-or-nothing")) option.AllOrNothing option.Unknown)
