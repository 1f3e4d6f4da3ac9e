-- The names of the crates below that definitions of this crate and of those above cite, passed on from one place. Declares nothing.
pub use Rattle.ppdb_base.specs.declared.merge_error.MergeError.TheVariants.{AsyncLost, DocumentConflict, ImageRange, ImageTwice, KindUnknown, MethodTaken, OffsetBeyond, RowsDiffer, SlotTwice}
pub use Rattle.ppdb_base.specs.declared.merge_error.MergeError.TheVariants.{DocumentTwice, LinkDiffers, SlotUnmapped, Unmapped}
pub use Rattle.std.specs.{Cmp.Lexicographic.slice_cmp, List.{enumerate_from, join_by, last_or, list_any, position_or_len, range_with_len, repeat, slice_split}}
pub use Rattle.std.specs.{Option.{option_map_or, option_or}, Ordering.nat_cmp}
pub use Rattle.std.specs.Str.Lines.{lines}
pub use Rattle.ppdb_base.specs.{Causes.{Rose, counted}, Files.{Contents, Files, Longer, Missing, reading}, First.{IsAccepted, IsFirst, Then}}
pub use Rattle.ppdb_base.specs.{Offsets.{Kept, Offsets, Rise, every, gone, is_kept_between, lined, moved, old_size}, Place.{at_byte, cell}, Told.told, Written.{AppendsPrefix, appended}}
pub use Rattle.ppdb_base.specs.{declared.code.Code.{Code, TheVariants.ScopeCrossing}, declared.fault.{BlobFault.BlobFault, Fault.Fault, Place.Place}, declared.limits.Limit.Limit}
pub use Rattle.ppdb_base.specs.declared.limits.{Limit.TheVariants.{FileSize, LineStep, ListPastEnd, PointOffset, SpanTotal, TableRows}, TheConstants.{MAX_FILE_BYTES, MAX_SPAN}}
pub use Rattle.ppdb_base.specs.{declared.link_error.LinkError.{LinkError, TheVariants.{NotJson, Shape}}, declared.merge_error.MergeError.MergeError, declared.offsets.Run.Run}
pub use Rattle.cli_ints.specs.Shortest.{short_unsigned}
pub use Rattle.row_layout.specs.{Rows.{Fit, row_bytes}, declared.column.{Column.Column, Sizes.Sizes}}
pub use Rattle.metadata_root.specs.{Streams.{AreStreamsOf, ContainerFaults, Streams, bytes_of}, declared.kind.StreamKind.TheVariants.Pdb}
pub use Rattle.blob_grammar.specs.{Grammar.{Grammar, Value, cut}, Reader.{Left, answer, prefix_of}, Reading.Reading}
pub use Rattle.ppdb_heaps.specs.{Cursor.NameLeft, Heaps.{blob_at, guid_at, text_at}, Names.{IsName, NameReading, name_of, names}}
pub use Rattle.ppdb_tables.specs.{Chains.{NeverEnds, parent_at}, Head.{PdbFaults, head_in, method_token}}
pub use Rattle.ppdb_tables.specs.Layouts.{constant_columns, custom_columns, document_columns, import_columns, machine_columns, method_columns, scope_columns, variable_columns, widths_of}
pub use Rattle.ppdb_tables.specs.{Parents.{coded_in, coded_of, parent_in}, RawTables.{HasShape, RawTables, count, numbered, row_at}, Tables.{TablesFaults, tables_in}, declared.head.PdbHead.PdbHead}
pub use Rattle.ppdb_tables.specs.{declared.parent.Parent.Parent, declared.rows.{ConstantRow.ConstantRow, CustomRow.CustomRow, DocumentRow.DocumentRow, ImportRow.ImportRow, MachineRow.MachineRow}}
pub use Rattle.ppdb_tables.specs.declared.rows.{MethodDebugRow.MethodDebugRow, ScopeRow.ScopeRow, VariableRow.VariableRow}
pub use Rattle.sequence_points.specs.{MovedPoints.{first_offset, moved_points}, Places.Shown, Points.{PointsReading, common_document, points_after, signature_of}, Ranges.{IsOffset, number_limit}}
pub use Rattle.sequence_points.specs.{Records.sequence_points, Written.{CanBeWritten, first_of, large_steps, last_of, points_blob}, declared.point.{Point.Point, PointLimits.PointLimits, Span.Span}}
pub use Rattle.sequence_points.specs.declared.point.Span.TheVariants.{Hidden, Lines}
pub use Rattle.type_blobs.specs.ConstantReading.{ConstantLeft, ConstantReading, body, body_answer, modifier_answer, shown}
pub use Rattle.type_blobs.specs.Constants.{ConstantBody, body_of, constants, enumerated, general, object, primitive}
pub use Rattle.type_blobs.specs.Imports.{ImportItem, alias, assembly_alias, assembly_namespace, assembly_namespace_alias, imports, namespace, namespace_alias, target, target_alias, text_of, xml}
pub use Rattle.type_blobs.specs.{Spelling.{IsBody, IsImport, constant_spelling, import_item}, Types.IsToken, declared.import_writer.ImportNumbers.ImportNumbers, declared.types.Modifier.Modifier}
pub use Rattle.type_blobs.specs.declared.types.{TypeLimits.TypeLimits, TypeToken.TypeToken}
pub use Rattle.custom_info.specs.{AsyncStepping.{IsHandler, IsStep, Stepping, async_spelling, async_stepping, entries_of}, HoistedScopes.{IsSlot, slot_spelling}, Kinds.{kind_of, source_link}}
pub use Rattle.custom_info.specs.{TypeDocuments.{IsRowNumber, type_documents}, declared.kinds.Kind.{Kind, TheVariants.{Async, Free, Hoisted, TypeDocuments, Unknown}}}
pub use Rattle.custom_info.specs.{declared.slots.{Range.Range, Slot.{Slot, TheVariants.{Empty, Held}}}, declared.stepping.AsyncStep.AsyncStep}
