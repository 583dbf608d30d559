mod Forms
mod Parsing
mod Read
